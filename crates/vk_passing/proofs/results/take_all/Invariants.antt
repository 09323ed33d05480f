use Rattle.std.proofs.Common.{◌≡◌}
use Rattle.vk_frames.specs.Each.{each}
use Rattle.vk_frames.specs.Frames.{FitsAs, lanes_of}
use Rattle.vk_passing.specs.Taken.{taken_live}
use Rattle.vk_passing.proofs.results.take_all.Given as goal

abbrev pub invariant-loop-lane : goal.invariant-loop-lane
invariant-loop-lane l = record {
  fits : FitsAs l.fn.frame l.frame;
  lanes : lanes_of l.frame ≡ each l.lane (taken_live l.m l.register l.result_register (lanes_of l.callee)) (lanes_of l.fn.frame);
}
