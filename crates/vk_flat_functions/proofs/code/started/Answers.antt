-- Integers are no `void`.
use Rattle.std.proofs.Common.{ap, ◌∙◌}
use Rattle.std.specs.List.{list_all}
use Rattle.vk_flat.specs.Values.{is_value}
use Rattle.vk_flat_functions.proofs.Locals.{integer_values}
use Rattle.vk_flat_functions.proofs.code.started.Goals as goal

pub invariant_of-result : goal.invariant_of-result
invariant_of-result c = record { values = ap (list_all is_value) c.in_ok-regs.ensures ∙ integer_values c.args.params.now c.requires.integers }
