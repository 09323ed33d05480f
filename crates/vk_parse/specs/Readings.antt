-- What tokens are: a unit that keeps the rules C5 to C7, or a fault of them.
use Rattle.std.specs.Prelude.{ℕ, List}
use Rattle.vk_ast.specs.Units.{ItemTree}
use Rattle.vk_tokens.specs.declared.tokens.Token.{Token}
use Rattle.vk_unit_rules.specs.declared.rules.UnitRule.{UnitRule}
use Rattle.vk_parse.specs.Parsing.{Parses, IsWithin, KeepsWords, IsFault}

module _ (names : List (List ℕ)) (ts : List Token) where
  abbrev pub HasUnit : Type 0
  HasUnit = (items : List ItemTree) × (height : ℕ) × Parses names ts items height × IsWithin names ts items height × KeepsWords names ts

  -- `last` is the line of the end
  abbrev pub HasFault : (last : ℕ) → Type 0
  HasFault last = (line : ℕ) × (rule : UnitRule) × IsFault names ts last line rule
