-- The table of names of a unit: each name once, in the order in which they appear first.
use Rattle.std.specs.Prelude.{◌≡◌, ℕ, not, List, [], ◌∷◌, map, nat_eq, Option, Some, None}
use Rattle.std.specs.Cmp.Lexicographic.{pointwise}
use Rattle.std.specs.List.{All, filter, filter_map}
use Rattle.vk_ast.specs.Names.{AreDistinct}
use Rattle.vk_tokens.specs.Names.{IsNamed}
use Rattle.vk_tokens.specs.declared.tokens.Token.{Token}
use Rattle.vk_lex.specs.Lexing.{Lexes}
use Rattle.vk_lex.specs.Tokens.{Kind, word, integer, sign, simdfn, simd, line_end, Tok, tok_of}

-- the text of a name
abbrev pub word_in : Kind → Option (List ℕ)
word_in (word text) = Some text
word_in (integer t n) = None
word_in (sign m) = None
word_in simdfn = None
word_in simd = None
word_in line_end = None

-- the texts of the names among the tokens, in order
abbrev pub words_of : List Tok → List (List ℕ)
words_of ts = filter_map (λ t. word_in t.kind) ts

-- the different texts of a list, in the order in which they appear first
abbrev pub firsts : List (List ℕ) → List (List ℕ)
firsts [] = []
firsts (w ∷ ws) = w ∷ filter (λ v. not (pointwise nat_eq w v)) (firsts ws)

-- the table of names of a unit with these tokens
abbrev pub names_of : List Tok → List (List ℕ)
names_of ts = firsts (words_of ts)

-- the bytes have these tokens, with this table of their names
pub record AreTokens (bytes : List ℕ) (names : List (List ℕ)) (ts : List Token) : Type 0 where
  pub lexes : Lexes bytes (map (tok_of names) ts)
  pub named : All (λ t. IsNamed names t.kind) ts
  pub distinct : AreDistinct names
  pub order : names ≡ names_of (map (tok_of names) ts)

-- the bytes have tokens, with a table of their names
abbrev pub HasTokens : List ℕ → Type 0
HasTokens bytes = (names : List (List ℕ)) × (ts : List Token) × AreTokens bytes names ts
