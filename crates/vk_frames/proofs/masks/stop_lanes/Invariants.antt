use Rattle.std.proofs.Common.{◌≡◌, cond}
use Rattle.vk_lanes.specs.Masks.{is_on}
use Rattle.vk_object.specs.Lane.{with_stop}
use Rattle.vk_frames.specs.Each.{each}
use Rattle.vk_frames.specs.Frames.{FitsAs, lanes_of}
use Rattle.vk_frames.proofs.masks.stop_lanes.Given as goal

abbrev pub invariant-loop-lane : goal.invariant-loop-lane
invariant-loop-lane l = record {
  fits : FitsAs l.fn.frame l.frame;
  lanes : lanes_of l.frame ≡ each l.lane (λ j k. cond (is_on l.lanes j) (with_stop k l.stop) k) (lanes_of l.fn.frame);
}
