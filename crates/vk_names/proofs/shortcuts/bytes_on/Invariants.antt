use Rattle.std.proofs.Common.{◌≡◌, length}
use Rattle.vk_names.specs.Inner.Many.{from}
use Rattle.vk_names.proofs.shortcuts.bytes_on.Given as goal

abbrev pub invariant-loop-rest : goal.invariant-loop-rest
invariant-loop-rest l = from l.state l.params.items l.rest ≡ from l.fn.state l.fn.params.items l.fn.bytes

abbrev pub decreases-loop-rest : goal.decreases-loop-rest
decreases-loop-rest l = length l.rest
