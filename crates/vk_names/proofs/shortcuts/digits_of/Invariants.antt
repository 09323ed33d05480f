use Rattle.std.proofs.Common.{◌≡◌, length}
use Rattle.vk_names.specs.Inner.Many.{digits_of}
use Rattle.vk_names.proofs.shortcuts.digits_of.Given as goal

abbrev pub invariant-loop-rest : goal.invariant-loop-rest
invariant-loop-rest l = digits_of l.at l.run l.rest ≡ digits_of l.fn.at l.fn.run l.fn.bytes

abbrev pub decreases-loop-rest : goal.decreases-loop-rest
decreases-loop-rest l = length l.rest
