-- How the tokens of a directive line are cut: into clauses, and at a `:` or a comma in one of them.
use Rattle.std.specs.Prelude.{ℕ, ◌+◌, ◌-◌, Bool, true, false, not, ◌&&◌, ◌||◌, cond, nat_le, List, [], ◌∷◌, drop, Option, Some, None}
use Rattle.std.specs.List.{before_first, position_or_len}
use Rattle.vk_tokens.specs.declared.tokens.Mark.TheVariants as mark
use Rattle.vk_grammar_expr.specs.declared.symbols.Sym.{Sym}
use Rattle.vk_grammar_expr.specs.declared.symbols.SymKind.{SymKind}
use Rattle.vk_grammar_expr.specs.declared.symbols.SymKind.TheVariants as kind
use Rattle.vk_grammar_expr.specs.Symbols.{head, is_sign}
use Rattle.vk_parse_directives.specs.declared.words.Word.{Word}
use Rattle.vk_parse_directives.specs.declared.words.Word.TheVariants as word
use Rattle.vk_parse_directives.specs.Words.{word_at}

-- an identifier or a keyword
abbrev pub is_any_word : SymKind → Bool
is_any_word (kind.Name id) = true
is_any_word (kind.Keyword k) = true
is_any_word (kind.TypeWord w) = true
is_any_word kind.LeftOut = true
is_any_word (kind.Int t value) = false
is_any_word (kind.Sign m) = false
is_any_word (kind.Simd n) = false
is_any_word (kind.Simdfn n) = false

abbrev pub is_open : Sym → Bool
is_open t = is_sign mark.OpenParen (Some t.kind)

abbrev pub is_close : Sym → Bool
is_close t = is_sign mark.CloseParen (Some t.kind)

abbrev pub is_comma : Sym → Bool
is_comma t = is_sign mark.Comma (Some t.kind)

abbrev pub is_colon : Sym → Bool
is_colon t = is_sign mark.Colon (Some t.kind)

-- How many tokens go to the `)` that closes the first of `d` parentheses which are open before them, or to the end.
abbrev pub group_len : (d : ℕ) → List Sym → ℕ
group_len d [] = 0
group_len d (t ∷ rest) =
    cond (is_open t) (1 + group_len (d + 1) rest) (cond (is_close t) (cond (nat_le d 1) 1 (1 + group_len (d - 1) rest)) (1 + group_len d rest))

-- How many tokens stand together at the front: a word with what stands in parentheses directly behind it, or one token.
abbrev pub piece_len : List Sym → ℕ
piece_len [] = 0
piece_len (t ∷ rest) = cond (is_any_word t.kind && is_sign mark.OpenParen (head rest)) (1 + group_len 0 rest) 1

-- A comma before a clause is skipped: one that is not the last token and has no other comma directly behind it.
abbrev pub begins_clause : List Sym → Bool
begins_clause [] = false
begins_clause (t ∷ rest) = not (is_comma t)

abbrev pub skips_comma : List Sym → Bool
skips_comma [] = false
skips_comma (t ∷ rest) = is_comma t && begins_clause rest

-- what stands before the first `:`, and what behind it
unfoldable pub before_colon : List Sym → List Sym
before_colon w = before_first is_colon w

abbrev pub tail_of : List Sym → Option (List Sym)
tail_of [] = None
tail_of (t ∷ rest) = Some rest

unfoldable pub behind_colon : List Sym → Option (List Sym)
behind_colon w = tail_of (drop (position_or_len is_colon w) w)

-- a comma outside parentheses, of which `d` are open before the tokens
abbrev pub has_comma : (d : ℕ) → List Sym → Bool
has_comma d [] = false
has_comma d (t ∷ rest) =
    cond (is_open t) (has_comma (d + 1) rest) (cond (is_close t) (has_comma (d - 1) rest) ((is_comma t && nat_le d 0) || has_comma d rest))

-- a word that is a modifier of `linear` wherever it stands first behind the `:`
abbrev pub is_modifier : Option Word → List Sym → Bool
is_modifier (Some word.Val) rest = true
is_modifier (Some word.Ref) rest = true
is_modifier (Some word.Uval) rest = true
is_modifier (Some word.Step) rest = is_sign mark.OpenParen (head rest)
is_modifier _ rest = false

abbrev pub begins_modifier : List (List ℕ) → List Sym → Bool
begins_modifier names [] = false
begins_modifier names (t ∷ rest) = is_modifier (word_at names t.kind) rest

-- Modifiers stand behind the `:` of `linear`, and no step.
abbrev pub has_modifiers : List (List ℕ) → List Sym → Bool
has_modifiers names w = begins_modifier names w || has_comma 0 w
