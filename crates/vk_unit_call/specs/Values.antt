-- What a scalar call of the function of a unit gives on the words of a lane.
use Rattle.std.specs.Prelude.{ℕ, [], ◌∷◌}
use Rattle.vk_ast.specs.Units.{FunctionTree}
use Rattle.vk_rules_book.specs.Rules.{Subject}
use Rattle.vk_rules_book.specs.Scopes.{text_of, types_of}
use Rattle.vk_meaning.specs.Data.{Value}
use Rattle.vk_meaning.specs.Lanes.{Words, arguments_of}
use Rattle.vk_meaning.specs.Meaning.{means}
use Rattle.vk_meaning.specs.Programs.{arrays_of}
use Rattle.vk_meaning.specs.World.{first_memory}

-- its value or stop, from the program's first memory
unfoldable pub scalar_value : Subject → FunctionTree → (turns : ℕ) → Words → (lane : ℕ) → Value
scalar_value unit f turns words lane =
    means (unit ∷ []) turns (text_of unit.texts f.name) (arguments_of (types_of f.params) words lane) (first_memory (arrays_of (unit ∷ [])))
