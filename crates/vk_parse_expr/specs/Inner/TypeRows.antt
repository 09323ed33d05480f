-- The table of types in the code, and how far the words of a type go.
use Rattle.std.specs.Prelude.{ℕ, Bool, true, false, cond, List, [], ◌∷◌, Option, Some, None}
use Rattle.std.specs.List.{prefix_len}
use Rattle.vk_types.specs.declared.types.Ty.{Ty}
use Rattle.vk_grammar_expr.specs.declared.symbols.Sym.{Sym}
use Rattle.vk_grammar_expr.specs.declared.symbols.SymKind.{SymKind}
use Rattle.vk_grammar_expr.specs.declared.symbols.SymKind.TheVariants as kind
use Rattle.vk_grammar_expr.specs.declared.symbols.TypeWord.{TypeWord}
use Rattle.vk_grammar_expr.specs.Symbols.{is_type_part}
use Rattle.vk_grammar_expr.specs.Types.{same_word, same_words}
use Rattle.vk_parse_expr.specs.declared.words.TypeRow.{TypeRow}

-- the type of the first row with these words
abbrev pub in_rows : List TypeWord → List TypeRow → Option Ty
in_rows words [] = None
in_rows words (r ∷ rows) = cond (same_words words r.words.now) (Some r.ty) (in_rows words rows)

abbrev pub part_count : List Sym → ℕ
part_count w = prefix_len (λ t. is_type_part (Some t.kind)) w

-- whether a token is this word of a type, and whether it is one of them at all
abbrev pub is_word : TypeWord → SymKind → Bool
is_word w (kind.TypeWord found) = same_word w found
is_word w _ = false

abbrev pub is_any_word : SymKind → Bool
is_any_word (kind.TypeWord w) = true
is_any_word _ = false
