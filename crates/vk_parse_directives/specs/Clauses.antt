-- The clauses of a directive (OpenMP 5.2, declare simd and simd), as a relation to their tokens:
--
--   clauses = { [","] clause }
--   clause  = simdlen "(" cond ")" | uniform "(" ids ")" | aligned "(" ids [ ":" cond ] ")" | linear "(" lin ")" | inbranch | notinbranch
--   lin     = ids [ ":" cond ] | ids ":" lmod { "," lmod } | mod "(" ids ")" [ ":" cond ]
--   lmod    = mod | step "(" cond ")"            mod = val | ref | uval | ID
--   ids     = ID { "," ID }
--
-- A word and what stands in parentheses directly behind it, or any other token, is a clause `Other` where it is none of these.
-- An expression in a clause has at most 64 levels, and the words of each cast in it are a type.
use Rattle.std.specs.Prelude.{◌≡◌, ℕ, ◌≤◌, true, false, cond, nat_lt, List, [], ◌∷◌, ◌++◌, length, take, drop, Option, Some, None}
use Rattle.vk_ast.specs.declared.names.NameId.{NameId}
use Rattle.vk_ast.specs.declared.directives.PlacedName.{PlacedName}
use Rattle.vk_ast.specs.declared.directives.Modifier.{Modifier}
use Rattle.vk_ast.specs.declared.directives.Modifier.TheVariants as modifier
use Rattle.vk_ast.specs.Tree.{Tree}
use Rattle.vk_ast.specs.Directives.{Says, ClauseTree}
use Rattle.vk_tokens.specs.declared.tokens.Mark.TheVariants as mark
use Rattle.vk_grammar_expr.specs.declared.symbols.Sym.{Sym}
use Rattle.vk_grammar_expr.specs.declared.symbols.SymKind.{SymKind}
use Rattle.vk_grammar_expr.specs.declared.symbols.SymKind.TheVariants as kind
use Rattle.vk_grammar_expr.specs.Symbols.{line_at, number_at, Is, IsSign}
use Rattle.vk_grammar_expr.specs.Grammar.{Spells, full}
use Rattle.vk_parse_words.specs.Faults.{is_fault}
use Rattle.vk_parse_directives.specs.declared.words.Word.{Word}
use Rattle.vk_parse_directives.specs.declared.words.Word.TheVariants as word
use Rattle.vk_parse_directives.specs.Words.{word_at}
use Rattle.vk_parse_directives.specs.Cuts.{piece_len, begins_clause, skips_comma, has_modifiers}

-- a whole expression of at most 64 levels, in which no words of types are no type
pub record IsCond (e : Tree) (x : List Sym) : Type 0 where
  pub height : ℕ
  pub spells : Spells full e height x
  pub within : height ≤ 64
  pub typed : (k : ℕ) → is_fault x k ≡ false

-- `x` in parentheses
pub data Wraps : (x w : List Sym) → Type 0 where
  in_parens : {o : Sym} {x : List Sym} {c : Sym} → IsSign mark.OpenParen o → IsSign mark.CloseParen c → Wraps x (o ∷ (x ++ (c ∷ [])))

-- a name where the token `t` stands
abbrev pub placed : Sym → NameId → PlacedName
placed t id = record { line = t.line; token = t.at; name = id }

pub data AreIds : List PlacedName → List Sym → Type 0 where
  one_id : {id : NameId} {t : Sym} → Is (kind.Name id) t → AreIds (placed t id ∷ []) (t ∷ [])
  more_ids : {id : NameId} {ids : List PlacedName} {t u : Sym} {x : List Sym} → Is (kind.Name id) t → IsSign mark.Comma u → AreIds ids x
      → AreIds (placed t id ∷ ids) (t ∷ (u ∷ x))

-- the identifiers among tokens
abbrev pub with_name : Sym → SymKind → List PlacedName → List PlacedName
with_name t (kind.Name id) later = placed t id ∷ later
with_name t _ later = later

abbrev pub names_in : List Sym → List PlacedName
names_in [] = []
names_in (t ∷ rest) = with_name t t.kind (names_in rest)

-- what a modifier of `linear` says: a word or a step
pub data Part : Type 0 where
  worded : Modifier → Part
  step : Tree → Part

abbrev pub modifier_of : Option Word → Modifier
modifier_of (Some word.Val) = modifier.Val
modifier_of (Some word.Ref) = modifier.Ref
modifier_of (Some word.Uval) = modifier.Uval
modifier_of _ = modifier.Other

abbrev pub words_in : List Part → List Modifier
words_in [] = []
words_in (worded m ∷ parts) = m ∷ words_in parts
words_in (step e ∷ parts) = words_in parts

abbrev pub steps_in : List Part → List Tree
steps_in [] = []
steps_in (worded m ∷ parts) = steps_in parts
steps_in (step e ∷ parts) = e ∷ steps_in parts

abbrev pub only_one : List Modifier → Option Modifier
only_one [] = None
only_one (m ∷ []) = Some m
only_one (m ∷ n ∷ ms) = Some modifier.Other

-- Two words or two steps are together another modifier; of two steps the first is kept.
abbrev pub modifier_in : List Part → Option Modifier
modifier_in parts = cond (nat_lt 1 (length (steps_in parts))) (Some modifier.Other) (only_one (words_in parts))

abbrev pub first_of_steps : List Tree → Option Tree
first_of_steps [] = None
first_of_steps (e ∷ es) = Some e

abbrev pub step_in : List Part → Option Tree
step_in parts = first_of_steps (steps_in parts)

module _ (names : List (List ℕ)) where
  pub data IsPart : Part → List Sym → Type 0 where
    a_word : {id : NameId} {t : Sym} → Is (kind.Name id) t → IsPart (worded (modifier_of (word_at names t.kind))) (t ∷ [])
    a_step : {t : Sym} {e : Tree} {x w : List Sym} → word_at names t.kind ≡ Some word.Step → Wraps x w → IsCond e x → IsPart (step e) (t ∷ w)

  pub data AreParts : List Part → List Sym → Type 0 where
    last_part : {p : Part} {x : List Sym} → IsPart p x → AreParts (p ∷ []) x
    more_parts : {p : Part} {parts : List Part} {x : List Sym} {u : Sym} {y : List Sym} → IsPart p x → IsSign mark.Comma u → AreParts parts y → AreParts (p ∷ parts) (x ++ (u ∷ y))

  -- what stands in the parentheses of `linear`
  pub data IsLinear : Says → List Sym → Type 0 where
    plain : {ids : List PlacedName} {x : List Sym} → AreIds ids x → IsLinear (Says.linear ids None None) x
    with_step : {ids : List PlacedName} {e : Tree} {x : List Sym} {u : Sym} {y : List Sym} → AreIds ids x → IsSign mark.Colon u
        → has_modifiers names y ≡ false → IsCond e y → IsLinear (Says.linear ids None (Some e)) (x ++ (u ∷ y))
    with_modifiers : {ids : List PlacedName} {parts : List Part} {x : List Sym} {u : Sym} {y : List Sym} → AreIds ids x → IsSign mark.Colon u
        → has_modifiers names y ≡ true → AreParts parts y → IsLinear (Says.linear ids (modifier_in parts) (step_in parts)) (x ++ (u ∷ y))
    modified : {id : NameId} {t : Sym} {ids : List PlacedName} {x w : List Sym} → Is (kind.Name id) t → Wraps x w → AreIds ids x
        → IsLinear (Says.linear ids (Some (modifier_of (word_at names t.kind))) None) (t ∷ w)
    modified_with_step : {id : NameId} {t : Sym} {ids : List PlacedName} {e : Tree} {x w : List Sym} {u : Sym} {y : List Sym} → Is (kind.Name id) t → Wraps x w → AreIds ids x
        → IsSign mark.Colon u → has_modifiers names y ≡ false → IsCond e y
        → IsLinear (Says.linear ids (Some (modifier_of (word_at names t.kind))) (Some e)) (t ∷ (w ++ (u ∷ y)))

  -- a clause that begins with this word, by the tokens behind it
  pub data IsForm : Word → Says → List Sym → Type 0 where
    a_simdlen : {e : Tree} {x w : List Sym} → Wraps x w → IsCond e x → IsForm word.Simdlen (Says.simdlen e) w
    a_uniform : {ids : List PlacedName} {x w : List Sym} → Wraps x w → AreIds ids x → IsForm word.Uniform (Says.uniform ids) w
    an_aligned : {ids : List PlacedName} {x w : List Sym} → Wraps x w → AreIds ids x → IsForm word.Aligned (Says.aligned ids None) w
    an_aligned_to : {ids : List PlacedName} {e : Tree} {x : List Sym} {u : Sym} {y w : List Sym} → Wraps (x ++ (u ∷ y)) w → AreIds ids x → IsSign mark.Colon u → IsCond e y
        → IsForm word.Aligned (Says.aligned ids (Some e)) w
    a_linear : {s : Says} {x w : List Sym} → Wraps x w → IsLinear s x → IsForm word.Linear s w
    an_inbranch : IsForm word.Inbranch Says.inside []
    a_notinbranch : IsForm word.Notinbranch Says.outside []

  -- a clause of one of these forms, by all its tokens
  pub data HasForm : Says → List Sym → Type 0 where
    known : {v : Word} {s : Says} {t : Sym} {w : List Sym} → word_at names t.kind ≡ Some v → IsForm v s w → HasForm s (t ∷ w)

  pub data IsClause : ClauseTree → List Sym → Type 0 where
    of_a_form : {s : Says} {x : List Sym} → HasForm s x → IsClause (record { line = line_at x; token = number_at x; says = s; names = names_in x }) x
    of_no_form : {x : List Sym} → ((s : Says) → HasForm s x → ⊥) → IsClause (record { line = line_at x; token = number_at x; says = Says.other; names = [] }) x

  pub data AreClauses : List ClauseTree → List Sym → Type 0 where
    no_clauses : AreClauses [] []
    behind_comma : {cs : List ClauseTree} {u : Sym} {w : List Sym} → IsSign mark.Comma u → begins_clause w ≡ true → AreClauses cs w → AreClauses cs (u ∷ w)
    a_clause : {c : ClauseTree} {cs : List ClauseTree} {t : Sym} {rest : List Sym} → skips_comma (t ∷ rest) ≡ false
        → IsClause c (take (piece_len (t ∷ rest)) (t ∷ rest)) → AreClauses cs (drop (piece_len (t ∷ rest)) (t ∷ rest))
        → AreClauses (c ∷ cs) (t ∷ rest)
