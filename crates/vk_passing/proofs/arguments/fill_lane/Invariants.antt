use Rattle.std.proofs.Common.{◌≡◌}
use Rattle.vk_object.specs.Machine.{put}
use Rattle.vk_frames.specs.Frames.{FitsAs, lanes_of}
use Rattle.vk_passing.specs.Filled.{given}
use Rattle.vk_passing.proofs.arguments.fill_lane.Given as goal

abbrev pub invariant-loop-parameter : goal.invariant-loop-parameter
invariant-loop-parameter g l = record {
  fits : FitsAs l.fn.callee l.callee;
  lanes : lanes_of l.callee ≡ put (lanes_of l.fn.callee) l.lane (given l.parameter (g.A.Arguments.words l.args) l.lane);
}
