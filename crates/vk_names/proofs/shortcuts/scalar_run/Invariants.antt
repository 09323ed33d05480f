use Rattle.std.proofs.Common.{◌≡◌, length}
use Rattle.vk_names.specs.declared.states.State.TheVariants.{Scalar}
use Rattle.vk_names.specs.Inner.Many.{from}
use Rattle.vk_names.proofs.shortcuts.scalar_run.Given as goal

abbrev pub invariant-loop-rest : goal.invariant-loop-rest
invariant-loop-rest l = from (Scalar (record { front = l.fn.found.front; scalar_at = l.fn.found.scalar_at; used = l.used })) l.fn.params.items l.rest ≡ from (Scalar l.fn.found) l.fn.params.items l.fn.bytes

abbrev pub decreases-loop-rest : goal.decreases-loop-rest
decreases-loop-rest l = length l.rest
