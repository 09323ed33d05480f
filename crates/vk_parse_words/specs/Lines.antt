-- How the tokens of a unit split into those outside directive lines and the clauses of each such line.
use Rattle.std.specs.Prelude.{◌≡◌, ℕ, ◌<◌, ◌-◌, ◌==◌, suc, cond, get_or, slice_set, Bool, true, false, not, ◌&&◌, List, [], ◌∷◌, ◌++◌, map, filter, length, count_by, nat_lt, slice_get}
use Rattle.std.specs.Option.{unwrap_or}
use Rattle.vk_tokens.specs.declared.tokens.Token.{Token}
use Rattle.vk_tokens.specs.declared.tokens.TokenKind.{TokenKind}
use Rattle.vk_tokens.specs.declared.tokens.TokenKind.TheVariants as token
use Rattle.vk_grammar_expr.specs.declared.symbols.Sym.{Sym}
use Rattle.vk_grammar_expr.specs.declared.symbols.SymKind.{SymKind}
use Rattle.vk_grammar_expr.specs.declared.symbols.SymKind.TheVariants as kind
use Rattle.vk_parse_words.specs.Words.{name_kind}

-- the words `#pragma omp ..` with which a directive line begins, and the line's end
abbrev pub is_heading : TokenKind → Bool
is_heading token.Simd = true
is_heading token.Simdfn = true
is_heading _ = false

abbrev pub is_line_end : TokenKind → Bool
is_line_end token.LineEnd = true
is_line_end _ = false

-- how many directive lines begin, and how many end, in a list of tokens
abbrev pub begun : List Token → ℕ
begun ts = count_by (λ t. is_heading t.kind) ts

abbrev pub ended : List Token → ℕ
ended ts = count_by (λ t. is_line_end t.kind) ts

-- a token of a unit, with all those before it
pub record Placed : Type 0 where
  pub before : List Token
  pub token : Token

abbrev pub place : List Token → Token → Placed
place before t = record { before = before; token = t }

abbrev pub placed : (before : List Token) → List Token → List Placed
placed before [] = []
placed before (t ∷ ts) = place before t ∷ placed (before ++ t ∷ []) ts

-- The number of the directive line that begins with this token or is the last to begin before it, counted from 1.
abbrev pub number : Placed → ℕ
number p = begun (p.before ++ p.token ∷ [])

-- the token stands among the clauses of a directive line, or is its end
abbrev pub in_line : Placed → Bool
in_line p = nat_lt (ended p.before) (begun p.before)

-- What a token is to the grammar; a heading stands for its line. The case of a line's end is a filler: `outside` and `clauses` drop it.
abbrev pub sym_kind : List (List ℕ) → ℕ → TokenKind → SymKind
sym_kind names n (token.Name id) = name_kind (unwrap_or (slice_get names id.0) []) id
sym_kind names n (token.Int t v) = kind.Int t v
sym_kind names n (token.Sign m) = kind.Sign m
sym_kind names n token.Simdfn = kind.Simdfn n
sym_kind names n token.Simd = kind.Simd n
sym_kind names n token.LineEnd = kind.LeftOut

-- A token as the grammar reads it, numbered from 0 by its place in the unit.
abbrev pub sym_of : List (List ℕ) → Placed → Sym
sym_of names p = record { line = p.token.line; at = length p.before; kind = sym_kind names (number p) p.token.kind }

-- The tokens outside directive lines, each such line being one.
abbrev pub stands_outside : Placed → Bool
stands_outside p = not (in_line p) && not (is_line_end p.token.kind)

unfoldable pub outside : List (List ℕ) → List Token → List Sym
outside names ts = map (sym_of names) (filter stands_outside (placed [] ts))

-- The tokens of the clauses of the directive line `n`.
abbrev pub is_clause_of : ℕ → Placed → Bool
is_clause_of n p = in_line p && not (is_heading p.token.kind) && not (is_line_end p.token.kind) && (number p == n)

unfoldable pub clauses : List (List ℕ) → List Token → ℕ → List Sym
clauses names ts n = map (sym_of names) (filter (is_clause_of n) (placed [] ts))

-- ---- how the lists grow token by token

-- one token more in the last line
abbrev pub with_last : Sym → List (List Sym) → List (List Sym)
with_last s lines = let last = length lines - 1 in slice_set lines last (get_or lines last [] ++ s ∷ [])

abbrev pub next_outside : (inside : Bool) → TokenKind → Sym → List Sym → List Sym
next_outside inside kind s syms = cond (not inside && not (is_line_end kind)) (syms ++ s ∷ []) syms

abbrev pub next_lines : (inside : Bool) → TokenKind → Sym → List (List Sym) → List (List Sym)
next_lines inside kind s lines = cond (is_heading kind) (lines ++ [] ∷ []) (cond (inside && not (is_line_end kind)) (with_last s lines) lines)

-- These are the tokens outside and the lines of a list of tokens, in which so many lines end.
pub record IsSplit (names : List (List ℕ)) (ts : List Token) (syms : List Sym) (lines : List (List Sym)) (ends : ℕ) : Type 0 where
  pub syms_are : syms ≡ outside names ts
  pub count : length lines ≡ begun ts
  pub lines_are : (k : ℕ) → k < length lines → get_or lines k [] ≡ clauses names ts (suc k)
  pub later_are : (n : ℕ) → begun ts < n → clauses names ts n ≡ []
  pub ends_are : ends ≡ ended ts
