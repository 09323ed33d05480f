-- Names of tokens, by their table.
use Rattle.std.specs.Prelude.{ℕ, ◌<◌, List, length}
use Rattle.vk_tokens.specs.declared.tokens.TokenKind.{TokenKind}
use Rattle.vk_tokens.specs.declared.tokens.TokenKind.TheVariants.{Name, Int, Sign, Simdfn, Simd, LineEnd}

-- a name is in the table
abbrev pub IsNamed : List (List ℕ) → TokenKind → Type 0
IsNamed names (Name id) = id.0 < length names
IsNamed names (Int t n) = Unit {0}
IsNamed names (Sign m) = Unit {0}
IsNamed names Simdfn = Unit {0}
IsNamed names Simd = Unit {0}
IsNamed names LineEnd = Unit {0}
