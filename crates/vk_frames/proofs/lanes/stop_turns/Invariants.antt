use Rattle.std.proofs.Common.{◌≡◌}
use Rattle.vk_object.specs.Lane.{out_of_turns}
use Rattle.vk_frames.specs.Each.{each}
use Rattle.vk_frames.specs.Frames.{FitsAs, lanes_of}
use Rattle.vk_frames.proofs.lanes.stop_turns.Given as goal

abbrev pub invariant-loop-lane : goal.invariant-loop-lane
invariant-loop-lane l = record {
  fits : FitsAs l.fn.frame l.frame;
  lanes : lanes_of l.frame ≡ each l.lane (λ j k. out_of_turns l.m k) (lanes_of l.fn.frame);
}
