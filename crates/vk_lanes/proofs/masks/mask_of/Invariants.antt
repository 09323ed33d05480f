use Rattle.std.proofs.Common.{◌≡◌, ◌*◌}
use Rattle.vk_lanes.specs.Masks.{lane_count}
use Rattle.vk_lanes.specs.Inner.Blocks.{SetsOn}
use Rattle.vk_lanes.proofs.masks.mask_of.Given as goal

abbrev pub invariant-loop-k : goal.invariant-loop-k
invariant-loop-k l = record {
  len : lane_count l.d ≡ lane_count l.fn.d;
  lanes : SetsOn 0 (8 * l.k) l.mask l.a l.fn.d l.d;
}

abbrev pub invariant-loop-i : goal.invariant-loop-i
invariant-loop-i l = record {
  len : lane_count l.d ≡ lane_count l.fn.d;
  lanes : SetsOn 0 l.i l.mask l.a l.fn.d l.d;
}
