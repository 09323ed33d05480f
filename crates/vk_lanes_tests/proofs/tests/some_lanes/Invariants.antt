use Rattle.std.proofs.Common.{◌≡◌}
use Rattle.vk_lanes.specs.Masks.{lane_count}
use Rattle.vk_lanes_tests.proofs.tests.some_lanes.Given as goal

abbrev pub invariant-loop-lane : goal.invariant-loop-lane
invariant-loop-lane l = lane_count l.mask ≡ l.lanes
