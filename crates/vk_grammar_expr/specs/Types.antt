-- Words of integer types: which of them together are a type (C17 6.7.2, 7.20.1.1).
use Rattle.std.specs.Prelude.{◌≡◌, ℕ, ◌==◌, Bool, true, false, cond, List, [], ◌∷◌, Option, Some, None, unwrap_or, count_by}
use Rattle.std.specs.List.{list_all}
use denote.Enum.Bare.{sameb}
use Rattle.vk_types.specs.declared.types.Ty.{Ty}
use Rattle.vk_types.specs.declared.types.Ty.TheVariants.{I8, I16, I32, I64, U8, U16, U32, U64}
use Rattle.vk_grammar_expr.specs.declared.symbols.Sym.{Sym}
use Rattle.vk_grammar_expr.specs.declared.symbols.SymKind.{SymKind}
use Rattle.vk_grammar_expr.specs.declared.symbols.SymKind.TheVariants as kind
use Rattle.vk_grammar_expr.specs.contracts.symbols.TypeWord.{the_type}
use Rattle.vk_grammar_expr.specs.declared.symbols.TypeWord.{TypeWord}
use Rattle.vk_grammar_expr.specs.declared.symbols.TypeWord.TheVariants.{Signed, Unsigned, Char, Short, Int, Long, Int8, Int16, Int32, Int64, Uint8, Uint16, Uint32, Uint64}
use Rattle.vk_grammar_expr.specs.Symbols.{is_type_part}

-- the words of types among tokens, in their order; `const` is none
abbrev pub word_before : SymKind → List TypeWord → List TypeWord
word_before (kind.TypeWord w) words = w ∷ words
word_before _ words = words

unfoldable pub words_of : List Sym → List TypeWord
words_of [] = []
words_of (t ∷ rest) = word_before t.kind (words_of rest)

abbrev pub same_word : TypeWord → TypeWord → Bool
same_word = sameb the_type

abbrev pub word_list : List TypeWord
word_list = Signed ∷ Unsigned ∷ Char ∷ Short ∷ Int ∷ Long ∷ Int8 ∷ Int16 ∷ Int32 ∷ Int64 ∷ Uint8 ∷ Uint16 ∷ Uint32 ∷ Uint64 ∷ []

-- how often a word stands in a list, and whether two lists have the same words, in any order
abbrev pub times : TypeWord → List TypeWord → ℕ
times w words = count_by (same_word w) words

abbrev pub same_words : List TypeWord → List TypeWord → Bool
same_words a b = list_all (λ w. times w a == times w b) word_list

pub record TypeRow : Type 0 where
  pub words : List TypeWord
  pub ty : Ty

abbrev pub row : List TypeWord → Ty → TypeRow
row words ty = record { words = words; ty = ty }

-- The lists of C17 6.7.2, without plain `char`, with `long long` as `long`, and the names of <stdint.h>.
unfoldable pub type_table : List TypeRow
type_table =
    row (Signed ∷ Char ∷ []) I8
    ∷ row (Unsigned ∷ Char ∷ []) U8
    ∷ row (Short ∷ []) I16
    ∷ row (Signed ∷ Short ∷ []) I16
    ∷ row (Short ∷ Int ∷ []) I16
    ∷ row (Signed ∷ Short ∷ Int ∷ []) I16
    ∷ row (Unsigned ∷ Short ∷ []) U16
    ∷ row (Unsigned ∷ Short ∷ Int ∷ []) U16
    ∷ row (Int ∷ []) I32
    ∷ row (Signed ∷ []) I32
    ∷ row (Signed ∷ Int ∷ []) I32
    ∷ row (Unsigned ∷ []) U32
    ∷ row (Unsigned ∷ Int ∷ []) U32
    ∷ row (Long ∷ []) I64
    ∷ row (Signed ∷ Long ∷ []) I64
    ∷ row (Long ∷ Int ∷ []) I64
    ∷ row (Signed ∷ Long ∷ Int ∷ []) I64
    ∷ row (Unsigned ∷ Long ∷ []) U64
    ∷ row (Unsigned ∷ Long ∷ Int ∷ []) U64
    ∷ row (Long ∷ Long ∷ []) I64
    ∷ row (Signed ∷ Long ∷ Long ∷ []) I64
    ∷ row (Long ∷ Long ∷ Int ∷ []) I64
    ∷ row (Signed ∷ Long ∷ Long ∷ Int ∷ []) I64
    ∷ row (Unsigned ∷ Long ∷ Long ∷ []) U64
    ∷ row (Unsigned ∷ Long ∷ Long ∷ Int ∷ []) U64
    ∷ row (Int8 ∷ []) I8
    ∷ row (Int16 ∷ []) I16
    ∷ row (Int32 ∷ []) I32
    ∷ row (Int64 ∷ []) I64
    ∷ row (Uint8 ∷ []) U8
    ∷ row (Uint16 ∷ []) U16
    ∷ row (Uint32 ∷ []) U32
    ∷ row (Uint64 ∷ []) U64
    ∷ []

abbrev pub in_table : List TypeWord → List TypeRow → Option Ty
in_table words [] = None
in_table words (r ∷ rows) = cond (same_words words r.words) (Some r.ty) (in_table words rows)

-- the type that the words are together
unfoldable pub type_of : List TypeWord → Option Ty
type_of words = in_table words type_table

-- `ctype` of the grammar: words and `const`, at least one word. Whether the words are a type is C7, a rule on tokens alone.
pub data AreTypeParts : List Sym → Type 0 where
  no_parts : AreTypeParts []
  a_part : {t : Sym} {rest : List Sym} → is_type_part (Some t.kind) ≡ true → AreTypeParts rest → AreTypeParts (t ∷ rest)

abbrev pub has_words : List TypeWord → Bool
has_words [] = false
has_words (w ∷ words) = true

pub record IsType (u : List Sym) : Type 0 where
  pub parts : AreTypeParts u
  pub has : has_words (words_of u) ≡ true

-- the type in a tree; `int` where the words are no type, so that each text has a tree
unfoldable pub type_in : List Sym → Ty
type_in u = unwrap_or (type_of (words_of u)) I32
