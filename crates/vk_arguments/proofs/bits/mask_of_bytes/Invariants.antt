-- The lanes below the index are on where their bytes say so, and each of these bytes is a lane's.
use Rattle.std.proofs.Common.{◌≡◌, ℕ, ◌&&◌, nat_lt, take, true, Some}
use Rattle.std.specs.List.{list_all}
use Rattle.vk_lanes.specs.Masks.{is_on, lane_count}
use Rattle.vk_arguments.specs.Texts.{is_bit, is_one}
use Rattle.vk_arguments.proofs.bits.mask_of_bytes.Given as goal

abbrev pub invariant-loop-lane : goal.invariant-loop-lane
invariant-loop-lane l = record {
  len : lane_count l.mask ≡ l.lanes;
  lanes : (lane : ℕ) → is_on l.mask lane ≡ (nat_lt lane l.lane && is_one (Some l.fn.bytes) lane);
  bits : list_all (is_bit l.takes_mask) (take l.lane l.fn.bytes) ≡ true;
}
