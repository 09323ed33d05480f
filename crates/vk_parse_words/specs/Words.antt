-- Keywords and words of types by their texts.
use Rattle.std.specs.Prelude.{ℕ, nat_eq, Bool, List, [], ◌∷◌, codes, Option, Some, None, if◌then◌else◌}
use Rattle.std.specs.List.{list_any}
use Rattle.std.specs.Cmp.Lexicographic.{pointwise}
use Rattle.vk_ast.specs.declared.names.NameId.{NameId}
use Rattle.vk_grammar_expr.specs.declared.symbols.SymKind.{SymKind}
use Rattle.vk_grammar_expr.specs.declared.symbols.SymKind.TheVariants as kind
use Rattle.vk_grammar_expr.specs.declared.symbols.Keyword.{Keyword}
use Rattle.vk_grammar_expr.specs.declared.symbols.Keyword.TheVariants.{If, Else, While, Do, For, Break, Continue, Return, Extern, Const, Restrict, Void}
use Rattle.vk_grammar_expr.specs.declared.symbols.TypeWord.{TypeWord}
use Rattle.vk_grammar_expr.specs.declared.symbols.TypeWord.TheVariants.{Signed, Unsigned, Char, Short, Int, Long, Int8, Int16, Int32, Int64, Uint8, Uint16, Uint32, Uint64}

-- The keywords of the grammar (C17 6.4.1).
abbrev pub keyword_text : Keyword → List ℕ
keyword_text If = codes "if"
keyword_text Else = codes "else"
keyword_text While = codes "while"
keyword_text Do = codes "do"
keyword_text For = codes "for"
keyword_text Break = codes "break"
keyword_text Continue = codes "continue"
keyword_text Return = codes "return"
keyword_text Extern = codes "extern"
keyword_text Const = codes "const"
keyword_text Restrict = codes "restrict"
keyword_text Void = codes "void"

abbrev pub keywords : List Keyword
keywords = If ∷ Else ∷ While ∷ Do ∷ For ∷ Break ∷ Continue ∷ Return ∷ Extern ∷ Const ∷ Restrict ∷ Void ∷ []

-- The words of integer types: keywords (C17 6.7.2) and names of <stdint.h> (C17 7.20.1.1).
abbrev pub type_word_text : TypeWord → List ℕ
type_word_text Signed = codes "signed"
type_word_text Unsigned = codes "unsigned"
type_word_text Char = codes "char"
type_word_text Short = codes "short"
type_word_text Int = codes "int"
type_word_text Long = codes "long"
type_word_text Int8 = codes "int8_t"
type_word_text Int16 = codes "int16_t"
type_word_text Int32 = codes "int32_t"
type_word_text Int64 = codes "int64_t"
type_word_text Uint8 = codes "uint8_t"
type_word_text Uint16 = codes "uint16_t"
type_word_text Uint32 = codes "uint32_t"
type_word_text Uint64 = codes "uint64_t"

abbrev pub type_words : List TypeWord
type_words = Signed ∷ Unsigned ∷ Char ∷ Short ∷ Int ∷ Long ∷ Int8 ∷ Int16 ∷ Int32 ∷ Int64 ∷ Uint8 ∷ Uint16 ∷ Uint32 ∷ Uint64 ∷ []

-- The keywords of C17 6.4.1 that are left out, but for those of floating types, which are no tokens.
abbrev pub left_out : List (List ℕ)
left_out =
    codes "auto" ∷ codes "case" ∷ codes "default" ∷ codes "enum" ∷ codes "goto" ∷ codes "inline" ∷ codes "register"
    ∷ codes "sizeof" ∷ codes "static" ∷ codes "struct" ∷ codes "switch" ∷ codes "typedef" ∷ codes "union" ∷ codes "volatile"
    ∷ codes "_Alignas" ∷ codes "_Alignof" ∷ codes "_Atomic" ∷ codes "_Bool" ∷ codes "_Generic" ∷ codes "_Imaginary"
    ∷ codes "_Noreturn" ∷ codes "_Static_assert" ∷ codes "_Thread_local" ∷ []

-- two texts are the same
abbrev pub same_text : List ℕ → List ℕ → Bool
same_text a b = pointwise nat_eq a b

-- which of these has this text
abbrev pub with_text : {A : Type 0} → (A → List ℕ) → List A → List ℕ → Option A
with_text text_of [] text = None
with_text text_of (a ∷ rest) text = if same_text (text_of a) text then Some a else with_text text_of rest text

unfoldable pub keyword_of : List ℕ → Option Keyword
keyword_of text = with_text keyword_text keywords text

unfoldable pub type_word_of : List ℕ → Option TypeWord
type_word_of text = with_text type_word_text type_words text

unfoldable pub is_left_out : List ℕ → Bool
is_left_out text = list_any (λ w. same_text w text) left_out

-- What the name `id` with this text is to the grammar.
abbrev pub rarer_kind : Bool → NameId → SymKind
rarer_kind left id = if left then kind.LeftOut else kind.Name id

abbrev pub other_kind : Option TypeWord → List ℕ → NameId → SymKind
other_kind (Some w) text id = kind.TypeWord w
other_kind None text id = rarer_kind (is_left_out text) id

abbrev pub kind_for : Option Keyword → List ℕ → NameId → SymKind
kind_for (Some k) text id = kind.Keyword k
kind_for None text id = other_kind (type_word_of text) text id

abbrev pub name_kind : List ℕ → NameId → SymKind
name_kind text id = kind_for (keyword_of text) text id
