-- Where words are no type, or a keyword is left out: the rule C7, on the tokens outside directive lines alone.
use Rattle.std.specs.Prelude.{◌≡◌, ℕ, ◌-◌, ◌<◌, Bool, true, false, not, ◌&&◌, List, [], ◌∷◌, length, take, drop, reverse, take_while, is_none, Some}
use Rattle.vk_grammar_expr.specs.declared.symbols.Sym.{Sym}
use Rattle.vk_grammar_expr.specs.declared.symbols.SymKind.{SymKind}
use Rattle.vk_grammar_expr.specs.declared.symbols.SymKind.TheVariants as kind
use Rattle.vk_grammar_expr.specs.declared.symbols.Keyword.TheVariants as keyword
use Rattle.vk_grammar_expr.specs.Symbols.{is_type_part}
use Rattle.vk_grammar_expr.specs.Types.{words_of, has_words, type_of}

-- the words of types and the `const` that stand at the front
unfoldable pub run_of : List Sym → List Sym
run_of w = take_while (λ t. is_type_part (Some t.kind)) w

-- such a run stands directly before, and has a word of a type
unfoldable pub ends_in_words : List Sym → Bool
ends_in_words before = has_words (words_of (run_of (reverse before)))

-- the same with one token more behind it
abbrev pub goes_on : Bool → SymKind → Bool
goes_on before (kind.TypeWord w) = true
goes_on before (kind.Keyword keyword.Const) = before
goes_on before _ = false

-- the words of the run at the front are no type (C17 6.7.2)
abbrev pub is_no_type : List Sym → Bool
is_no_type w = is_none (type_of (words_of (run_of w)))

-- A keyword that is left out, or the first word of a run that is no type; `const` is not counted as a word.
abbrev pub is_kind_fault : SymKind → (before w : List Sym) → Bool
is_kind_fault kind.LeftOut before w = true
is_kind_fault (kind.TypeWord word) before w = not (ends_in_words before) && is_no_type w
is_kind_fault _ before w = false

abbrev pub is_front_fault : (before w : List Sym) → Bool
is_front_fault before [] = false
is_front_fault before (t ∷ rest) = is_kind_fault t.kind before (t ∷ rest)

-- the fault at the token `k`, counted from 0
abbrev pub is_fault : List Sym → ℕ → Bool
is_fault w k = is_front_fault (take k w) (drop k w)

-- The place of C7, of which `n` tokens are left, it included: the first token with the fault.
pub record IsC7 (w : List Sym) (n : ℕ) : Type 0 where
  pub at : ℕ
  pub within : at < length w
  pub left : n ≡ length w - at
  pub fault : is_fault w at ≡ true
  pub first : (k : ℕ) → k < at → is_fault w k ≡ false
