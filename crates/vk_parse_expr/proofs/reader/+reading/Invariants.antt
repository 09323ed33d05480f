use Rattle.std.proofs.Common.{ℕ, ◌+◌, ◌-◌, ◌*◌, ◌≤◌, ◌<◌, length}
use Rattle.vk_grammar_expr.specs.Inner.Reading.{some_arguments, expression}
use Rattle.vk_parse_expr.specs.Inner.Answers.{summed}
use Rattle.vk_parse_expr.proofs.Lists.{Going}
use Rattle.vk_parse_expr.proofs.reader.+reading.Given as goal

-- how many levels are left below, and what stands in one level from its first token on
abbrev pub decreases-expression : goal.decreases-expression
decreases-expression l = 1000 * l.below

abbrev pub decreases-operand : goal.decreases-operand
decreases-operand l = 1000 * l.below

abbrev pub decreases-later_argument : goal.decreases-later_argument
decreases-later_argument l = 1000 * l.below + 1

abbrev pub decreases-some_arguments : goal.decreases-some_arguments
decreases-some_arguments l = 1000 * l.below + 2

abbrev pub decreases-arguments : goal.decreases-arguments
decreases-arguments l = 1000 * l.below + 3

abbrev pub decreases-call_of : goal.decreases-call_of
decreases-call_of l = 1000 * l.below + 4

abbrev pub decreases-named : goal.decreases-named
decreases-named l = 1000 * l.below + 5

abbrev pub decreases-atom : goal.decreases-atom
decreases-atom l = 1000 * l.below + 6

abbrev pub decreases-group : goal.decreases-group
decreases-group l = 1000 * l.below + 1

abbrev pub decreases-cast_of : goal.decreases-cast_of
decreases-cast_of l = 1000 * l.below + 1

abbrev pub decreases-branches : goal.decreases-branches
decreases-branches l = 1000 * l.below + 1

abbrev pub decreases-choices : goal.decreases-choices
decreases-choices l = 1000 * l.below + 2

abbrev pub decreases-subscripts : goal.decreases-subscripts
decreases-subscripts l = 1000 * l.below + (100 - l.base.height)

abbrev pub decreases-operators : goal.decreases-operators
decreases-operators l = 1000 * l.below + (100 - l.left.height)

abbrev pub decreases-prefix_sign : goal.decreases-prefix_sign
decreases-prefix_sign l = 1000 * l.below + 1

abbrev pub decreases-post : goal.decreases-post
decreases-post l = 1000 * l.below + 200

abbrev pub decreases-behind_paren : goal.decreases-behind_paren
decreases-behind_paren l = 1000 * l.below + 200

abbrev pub decreases-paren : goal.decreases-paren
decreases-paren l = 1000 * l.below + 201

abbrev pub decreases-unary : goal.decreases-unary
decreases-unary l = 1000 * l.below + 202

abbrev pub decreases-level : goal.decreases-level
decreases-level l = 1000 * l.below + (203 + l.n)

abbrev pub decreases-conditional : goal.decreases-conditional
decreases-conditional l = 1000 * l.below + 300

abbrev pub invariant-some_arguments-arguments : goal.invariant-some_arguments-arguments
invariant-some_arguments-arguments l = record {
  so_far : (turns : ℕ) → length l.fn.syms < turns → Going l.below turns l.list l.height l.rest (summed (some_arguments l.below turns (expression turns l.below)) l.fn.syms);
  shorter : length l.rest + 1 ≤ length l.fn.syms;
  high : l.height ≤ l.below;
}

abbrev pub decreases-some_arguments-arguments : goal.decreases-some_arguments-arguments
decreases-some_arguments-arguments l = length l.rest
