-- What `demangle` prints: each name of a file in words, one line for each.
use Rattle.std.specs.Prelude.{◌≡◌, ◌⊎◌, ℕ, ◌<◌, Bool, true, false, List, [], ◌∷◌, ◌++◌, length, codes, decimal, Option, None, Some, slice_index_or, ⊤}
use Rattle.std.specs.Fmt.{signed_decimal}
use Rattle.std.specs.List.{flat_map}
use Rattle.vk_kinds.specs.declared.kinds.Len.{Len}
use Rattle.vk_kinds.specs.declared.kinds.Len.TheVariants.{Fixed, Scalable}
use Rattle.vk_kinds.specs.declared.kinds.Step.{Step}
use Rattle.vk_kinds.specs.declared.kinds.Step.TheVariants.{One, By, Arg}
use Rattle.vk_kinds.specs.declared.kinds.Kind.{Kind}
use Rattle.vk_kinds.specs.declared.kinds.Kind.TheVariants.{Vector, Uniform, Linear, Ref, Val, Uval}
use Rattle.vk_kinds.specs.declared.kinds.Param.{Param}
use Rattle.vk_names.specs.declared.rules.NameRule.{NameRule}
use Rattle.vk_names.specs.declared.rules.NameRule.TheVariants.{N13}
use Rattle.vk_names.specs.Refusal.{NameRefused}
use Rattle.vk_names.specs.Spelling.{Name, Spells, isa_letter, text_of}

-- ---- words

abbrev pub step_words : Step → List ℕ
step_words One = codes "1"
step_words (By step) = signed_decimal step
step_words (Arg at) = codes "arg " ++ decimal at

abbrev pub kind_words : Kind → List ℕ
kind_words Vector = codes "vector"
kind_words Uniform = codes "uniform"
kind_words (Linear step) = codes "linear(" ++ (step_words step ++ codes ")")
kind_words (Ref step) = codes "ref(" ++ (step_words step ++ codes ")")
kind_words (Val step) = codes "val(" ++ (step_words step ++ codes ")")
kind_words (Uval step) = codes "uval(" ++ (step_words step ++ codes ")")

abbrev pub align_words : Option ℕ → List ℕ
align_words None = []
align_words (Some align) = codes ":aligned(" ++ (decimal align ++ codes ")")

abbrev pub mask_words : Bool → List ℕ
mask_words true = codes " masked lanes "
mask_words false = codes " unmasked lanes "

abbrev pub len_words : Len → List ℕ
len_words (Fixed n) = decimal n
len_words Scalable = codes "scalable"

abbrev pub param_words : Param → List ℕ
param_words p = codes " " ++ (kind_words p.kind ++ align_words p.align)

-- SCALAR isa LETTER unmasked lanes 4 .., and a newline
unfoldable pub name_line : Name → List ℕ
name_line n = n.scalar ++ (codes " isa " ++ (isa_letter n.front.isa ∷ (mask_words n.front.masked ++ (len_words n.front.len ++ (flat_map param_words n.params ++ codes "\n")))))

-- ---- the lines of a file

-- the line is the name and nothing more
pub record IsNameLine (n : Name) (line : List ℕ) : Type 0 where
  pub spells : Spells n line
  pub whole : text_of line ≡ line

-- each line is its name
abbrev pub AreNames : List Name → List (List ℕ) → Type 0
AreNames [] [] = ⊤
AreNames [] (l ∷ ls) = ⊥
AreNames (n ∷ ns) [] = ⊥
AreNames (n ∷ ns) (l ∷ ls) = IsNameLine n l × AreNames ns ls

-- what is printed of these names
abbrev pub name_lines : List Name → List ℕ
name_lines ns = flat_map name_line ns

-- the line spells no name, or bytes stand after its name: N13 at the first of them
abbrev pub IsLineRefused : List ℕ → ℕ → NameRule → Type 0
IsLineRefused line at rule =
    NameRefused line at rule ⊎ ((n : Name) × Spells n line × (length (text_of line) < length line) × (at ≡ length (text_of line)) × (rule ≡ N13))

-- line i, from 0, is the first that is no name
pub record IsFirstRefused (ls : List (List ℕ)) (i at : ℕ) (rule : NameRule) : Type 0 where
  pub inside : i < length ls
  pub refused : IsLineRefused (slice_index_or ls i []) at rule
  pub before : (j : ℕ) → j < i → (n : Name) × IsNameLine n (slice_index_or ls j [])
