-- What the code's own functions tell each other.
use Rattle.std.specs.Prelude.{ℕ, ◌<◌, Bool, List, cond, length, map}
use Rattle.std.specs.List.{range_with_len}
use Rattle.vk_ast.specs.Units.{FunctionTree}
use Rattle.vk_rules_book.specs.Rules.{Subject}
use Rattle.vk_rules.specs.Functions.{directives_at, functions_of}
use Rattle.vk_meaning.specs.Lanes.{Words}
use Rattle.vk_accept.specs.declared.accepting.NoUnit.{NoUnit}
use Rattle.vk_accept.specs.declared.accepting.NoUnit.TheVariants.{Rule as Broken, NotYet as Unbuilt, Memory as Unchecked}
use Rattle.vk_ends.specs.declared.ends.Refusal.TheVariants.{Unit as Unfit, NotYet}
use Rattle.vk_unit_call.specs.Values.{scalar_value}
use Rattle.vk_lane_lines.specs.Lines.{line, told_by}
use Rattle.vk_lane_lines.specs.declared.lines.Told.TheVariants.{Off}
use Rattle.vk_selection.specs.declared.selection.Selected.{Selected}
use Rattle.vk_selection.specs.declared.selection.Selected.TheVariants.{Vector, Scalar}
use Rattle.vk_cmd_lanes.specs.declared.command.NoCall.{NoCall}
use Rattle.vk_cmd_lanes.specs.declared.command.NoCall.TheVariants.{Refused, Memory}

-- the number of the function that is selected
abbrev pub function_in : Selected → ℕ
function_in (Vector v lanes) = v.function
function_in (Scalar number) = number

-- the function is there, and the directive of a variant
abbrev pub IsListed : Subject → Selected → Type 0
IsListed unit (Vector v lanes) = (v.function < length (functions_of unit)) × (v.directive < directives_at unit v.function)
IsListed unit (Scalar number) = number < length (functions_of unit)

-- the lines of scalar calls on the words of lanes
abbrev pub lines_on : Subject → FunctionTree → (turns lanes : ℕ) → (mask : ℕ → Bool) → Words → List (List ℕ)
lines_on unit f turns n mask words = map (λ lane. line lane (cond (mask lane) (told_by (scalar_value unit f turns words lane)) Off)) (range_with_len 0 n)

-- why there is no call in a unit that is not accepted
abbrev pub told_unaccepted : NoUnit → NoCall
told_unaccepted (Broken line directive rule) = Refused (Unfit 0 line directive rule)
told_unaccepted Unbuilt = Refused (NotYet 0)
told_unaccepted Unchecked = Memory
