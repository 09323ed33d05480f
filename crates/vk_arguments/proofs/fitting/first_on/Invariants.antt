-- The lanes below the index are off.
use Rattle.std.proofs.Common.{◌≡◌, ℕ, ◌<◌, false}
use Rattle.vk_lanes.specs.Masks.{is_on}
use Rattle.vk_arguments.proofs.fitting.first_on.Given as goal

abbrev pub invariant-loop-lane : goal.invariant-loop-lane
invariant-loop-lane l = (j : ℕ) → j < l.lane → is_on l.fn.mask j ≡ false
