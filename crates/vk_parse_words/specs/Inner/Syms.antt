-- The lines of what `classify` answers.
use Rattle.std.specs.Prelude.{ℕ, ◌-◌, ◌<◌, ◌≤◌, List, [], map, length, get_or}
use Rattle.std.specs.Global.{Vec}
use Rattle.vk_grammar_expr.specs.declared.symbols.Sym.{Sym}
use Rattle.vk_grammar_expr.specs.declared.symbols.SymKind.{SymKind}
use Rattle.vk_grammar_expr.specs.declared.symbols.SymKind.TheVariants as kind
use Rattle.vk_parse_words.specs.declared.lines.Syms.{Syms}

abbrev pub rows : List (Vec Sym) → List (List Sym)
rows lines = map (λ v. v.items) lines

-- the tokens of the clauses of the directive line `n`
abbrev pub line_of : Syms → ℕ → List Sym
line_of s n = get_or (rows s.lines.items) (n - 1) []

-- a name is in the table
abbrev pub IsKnown : List (List ℕ) → SymKind → Type 0
IsKnown names (kind.Name id) = id.0 < length names
IsKnown names (kind.Int t value) = Unit {0}
IsKnown names (kind.Sign m) = Unit {0}
IsKnown names (kind.Keyword k) = Unit {0}
IsKnown names (kind.TypeWord w) = Unit {0}
IsKnown names kind.LeftOut = Unit {0}
IsKnown names (kind.Simd n) = Unit {0}
IsKnown names (kind.Simdfn n) = Unit {0}

-- the number of a directive line is one of those of `count` lines
abbrev pub HasLine : (count : ℕ) → SymKind → Type 0
HasLine count (kind.Simd n) = (1 ≤ n) × (n ≤ count)
HasLine count (kind.Simdfn n) = (1 ≤ n) × (n ≤ count)
HasLine count (kind.Name id) = Unit {0}
HasLine count (kind.Int t value) = Unit {0}
HasLine count (kind.Sign m) = Unit {0}
HasLine count (kind.Keyword k) = Unit {0}
HasLine count (kind.TypeWord w) = Unit {0}
HasLine count kind.LeftOut = Unit {0}
