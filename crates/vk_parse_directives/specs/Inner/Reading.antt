-- The reader of clauses, on lists of tokens.
use Rattle.std.specs.Prelude.{ℕ, zero, suc, ◌-◌, Bool, false, ◌&&◌, ◌||◌, cond, List, [], ◌∷◌, length, take, drop, Option, Some, None, Result, Ok, Err}
use Rattle.vk_ast.specs.declared.directives.PlacedName.{PlacedName}
use Rattle.vk_ast.specs.Tree.{Tree}
use Rattle.vk_ast.specs.Directives.{Says, ClauseTree}
use Rattle.vk_tokens.specs.declared.tokens.Mark.TheVariants as mark
use Rattle.vk_grammar_expr.specs.declared.symbols.Sym.{Sym}
use Rattle.vk_grammar_expr.specs.declared.symbols.SymKind.{SymKind}
use Rattle.vk_grammar_expr.specs.declared.symbols.SymKind.TheVariants as kind
use Rattle.vk_grammar_expr.specs.Symbols.{head, line_at, number_at, is_sign}
use Rattle.vk_grammar_expr.specs.Grammar.{Tall}
use Rattle.vk_grammar_expr.specs.Inner.Parser.{Fault}
use Rattle.vk_grammar_expr.specs.Inner.Reading.{whole_expression}
use Rattle.vk_parse_words.specs.Faults.{is_fault}
use Rattle.vk_parse_directives.specs.declared.words.Word.{Word}
use Rattle.vk_parse_directives.specs.declared.words.Word.TheVariants as word
use Rattle.vk_parse_directives.specs.Words.{word_at}
use Rattle.vk_parse_directives.specs.Cuts.{is_open, is_close, is_comma, before_colon, behind_colon, piece_len, skips_comma, has_modifiers}
use Rattle.vk_parse_directives.specs.Clauses.{placed, names_in, Part, worded, step, modifier_of, modifier_in, step_in}

-- one after the other, as long as there is something
infixl 55 ◌>>=◌
abbrev pub ◌>>=◌ : {A B : Type 0} → Option A → (A → Option B) → Option B
◌>>=◌ (Some a) f = f a
◌>>=◌ None f = None

abbrev pub tree_in : Result (Tall × List Sym) Fault → Option Tree
tree_in (Ok read) = Some read.0.tree
tree_in (Err fault) = None

-- words of types that are no type, at one of the first `count` tokens
abbrev pub any_fault : (count : ℕ) → List Sym → Bool
any_fault zero x = false
any_fault (suc n) x = is_fault x n || any_fault n x

unfoldable pub has_fault : List Sym → Bool
has_fault x = any_fault (length x) x

unfoldable pub cond_in : List Sym → Option Tree
cond_in x = cond (has_fault x) None (tree_in (whole_expression (suc (length x)) 64 x))

-- an expression that may be missing
abbrev pub optional_in : Option (List Sym) → Option (Option Tree)
optional_in None = Some None
optional_in (Some y) = cond_in y >>= (λ e. Some (Some e))

-- the name that a token is, where it stands
abbrev pub named_by : Sym → SymKind → Option PlacedName
named_by t (kind.Name id) = Some (placed t id)
named_by t _ = None

abbrev pub name_in : Sym → Option PlacedName
name_in t = named_by t t.kind

abbrev pub ids_step : Option (List PlacedName) → Option PlacedName → Option (List PlacedName)
ids_step later name = name >>= (λ id. later >>= (λ ids. Some (id ∷ ids)))

abbrev pub ids_in : List Sym → Option (List PlacedName)
ids_in [] = None
ids_in (t ∷ []) = ids_step (Some []) (name_in t)
ids_in (t ∷ u ∷ rest) = cond (is_comma u) (ids_step (ids_in rest) (name_in t)) None

-- the last token, and those before it
abbrev pub without_last : List Sym → List Sym
without_last w = take (length w - 1) w

abbrev pub last_closes : List Sym → Bool
last_closes [] = false
last_closes (t ∷ []) = is_close t
last_closes (t ∷ u ∷ rest) = last_closes (u ∷ rest)

-- what stands in the parentheses
abbrev pub inside : List Sym → Option (List Sym)
inside [] = None
inside (o ∷ rest) = cond (is_open o && last_closes rest) (Some (without_last rest)) None

-- what stands in the parentheses of `aligned`
unfoldable pub aligned_in : List Sym → Option Says
aligned_in x = ids_in (before_colon x) >>= (λ ids. optional_in (behind_colon x) >>= (λ e. Some (Says.aligned ids e)))

abbrev pub alone : Says → List Sym → Option Says
alone s [] = Some s
alone s (t ∷ rest) = None

-- behind a modifier
abbrev pub later_parts : (List Sym → Option (List Part)) → List Sym → Option (List Part)
later_parts next [] = Some []
later_parts next (u ∷ rest) = cond (is_comma u) (next rest) None

module _ (names : List (List ℕ)) where
  -- one modifier of `linear`
  abbrev pub step_part : Option Word → List Sym → Option Part
  step_part (Some word.Step) w = inside w >>= (λ x. cond_in x >>= (λ e. Some (step e)))
  step_part _ w = None

  abbrev pub part_in : List Sym → Option Part
  part_in [] = None
  part_in (t ∷ []) = name_in t >>= (λ _. Some (worded (modifier_of (word_at names t.kind))))
  part_in (t ∷ u ∷ rest) = step_part (word_at names t.kind) (u ∷ rest)

  abbrev pub parts_step : (List Sym → Option (List Part)) → List Sym → Option (List Part)
  parts_step next w = part_in (take (piece_len w) w) >>= (λ p. later_parts next (drop (piece_len w) w) >>= (λ parts. Some (p ∷ parts)))

  abbrev pub parts_in : (turns : ℕ) → List Sym → Option (List Part)
  parts_in zero w = None
  parts_in (suc n) w = parts_step (parts_in n) w

  unfoldable pub modifiers_in : List Sym → Option (List Part)
  modifiers_in w = parts_in (suc (length w)) w

  -- behind the names of `linear`
  unfoldable pub behind_ids : List PlacedName → Option (List Sym) → Option Says
  behind_ids ids None = Some (Says.linear ids None None)
  behind_ids ids (Some y) =
      cond (has_modifiers names y) (modifiers_in y >>= (λ parts. Some (Says.linear ids (modifier_in parts) (step_in parts))))
      (cond_in y >>= (λ e. Some (Says.linear ids None (Some e))))

  -- behind the parentheses of a modifier
  unfoldable pub behind_group : Option (List Sym) → Option (Option Tree)
  behind_group None = Some None
  behind_group (Some y) = cond (has_modifiers names y) None (cond_in y >>= (λ e. Some (Some e)))

  unfoldable pub ids_linear : List Sym → Option Says
  ids_linear x = ids_in (before_colon x) >>= (λ ids. behind_ids ids (behind_colon x))

  unfoldable pub modified_linear : Sym → List Sym → Option Says
  modified_linear t w = name_in t >>= (λ _. inside (before_colon w) >>= (λ x. ids_in x >>= (λ ids. behind_group (behind_colon w) >>= (λ e.
      Some (Says.linear ids (Some (modifier_of (word_at names t.kind))) e)))))

  unfoldable pub linear_in : List Sym → Option Says
  linear_in [] = None
  linear_in (t ∷ rest) = cond (is_sign mark.OpenParen (head rest)) (modified_linear t rest) (ids_linear (t ∷ rest))

  -- a clause that begins with this word, by the tokens behind it
  unfoldable pub form_in : Option Word → List Sym → Option Says
  form_in (Some word.Simdlen) w = inside w >>= (λ x. cond_in x >>= (λ e. Some (Says.simdlen e)))
  form_in (Some word.Uniform) w = inside w >>= (λ x. ids_in x >>= (λ ids. Some (Says.uniform ids)))
  form_in (Some word.Aligned) w = inside w >>= aligned_in
  form_in (Some word.Linear) w = inside w >>= linear_in
  form_in (Some word.Inbranch) w = alone Says.inside w
  form_in (Some word.Notinbranch) w = alone Says.outside w
  form_in _ w = None

  -- a clause by all its tokens
  abbrev pub known_in : List Sym → Option Says
  known_in [] = None
  known_in (t ∷ w) = form_in (word_at names t.kind) w

  abbrev pub told_as : List Sym → Option Says → ClauseTree
  told_as x (Some s) = record { line = line_at x; token = number_at x; says = s; names = names_in x }
  told_as x None = record { line = line_at x; token = number_at x; says = Says.other; names = [] }

  unfoldable pub clause_in : List Sym → ClauseTree
  clause_in x = told_as x (known_in x)

  -- the clauses of a line, in at most so many turns
  abbrev pub clauses_step : (List Sym → List ClauseTree) → List Sym → List ClauseTree
  clauses_step next [] = []
  clauses_step next (t ∷ rest) =
      let w = t ∷ rest in
      cond (skips_comma w) (next rest) (clause_in (take (piece_len w) w) ∷ next (drop (piece_len w) w))

  abbrev pub clauses_in : (turns : ℕ) → List Sym → List ClauseTree
  clauses_in zero w = []
  clauses_in (suc n) w = clauses_step (clauses_in n) w

  -- the clauses of a line
  unfoldable pub clauses_of : List Sym → List ClauseTree
  clauses_of w = clauses_in (length w) w
