-- What the bytes of a unit are: items of C, or the first fault of the rules C1 to C7.
use Rattle.std.specs.Prelude.{ℕ, ◌⊎◌, Bool, true, false, List}
use Rattle.std.specs.List.{list_any}
use Rattle.vk_ast.specs.Units.{ItemTree}
use Rattle.vk_tokens.specs.declared.tokens.Token.{Token}
use Rattle.vk_tokens.specs.declared.tokens.TokenKind.{TokenKind}
use Rattle.vk_tokens.specs.declared.tokens.TokenKind.TheVariants.{Simd}
use Rattle.vk_unit_rules.specs.declared.rules.UnitRule.{UnitRule}
use Rattle.vk_lex.specs.Characters.{last_line}
use Rattle.vk_lex.specs.Lexing.{Refuses}
use Rattle.vk_lex.specs.Tables.{AreTokens}
use Rattle.vk_parse.specs.Parsing.{Parses, IsWithin, KeepsWords, IsFault}

-- the bytes have these tokens, which are a unit with these items that keeps the rules C1 to C7
pub record IsUnit (bytes : List ℕ) (tokens : List Token) (names : List (List ℕ)) (items : List ItemTree) : Type 0 where
  pub are : AreTokens bytes names tokens
  pub height : ℕ
  pub parses : Parses names tokens items height
  pub within : IsWithin names tokens items height
  pub words : KeepsWords names tokens

-- a line `#pragma omp simd`
abbrev pub is_simd : TokenKind → Bool
is_simd Simd = true
is_simd _ = false

abbrev pub has_simd_line : List Token → Bool
has_simd_line tokens = list_any (λ (t : Token). is_simd t.kind) tokens

-- a fault of C5 to C7, in bytes that have tokens
pub record IsTreeFault (bytes : List ℕ) (line : ℕ) (rule : UnitRule) : Type 0 where
  pub names : List (List ℕ)
  pub tokens : List Token
  pub are : AreTokens bytes names tokens
  pub fault : IsFault names tokens (last_line bytes) line rule

-- the rule that the bytes break, with its line: the first fault of C1 to C4, and where there is none that of C5 to C7
abbrev pub IsUnitFault : List ℕ → (line : ℕ) → UnitRule → Type 0
IsUnitFault bytes line rule = Refuses bytes line rule ⊎ IsTreeFault bytes line rule
