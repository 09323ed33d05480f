use Rattle.std.proofs.Common.{◌≡◌, ◌-◌, length}
use Rattle.vk_names.specs.declared.states.State.TheVariants.{Next}
use Rattle.vk_names.specs.Inner.Many.{from}
use Rattle.vk_names.proofs.shortcuts.params_run.Given as goal

abbrev pub invariant-loop-rest : goal.invariant-loop-rest
invariant-loop-rest l = from (Next l.fn.front l.at) l.params.items l.rest ≡ from (Next l.fn.front l.fn.at) l.fn.params.items l.fn.bytes

abbrev pub decreases-loop-rest : goal.decreases-loop-rest
decreases-loop-rest l = 64 - length l.params.items
