use Rattle.std.proofs.Common.{◌≡◌}
use Rattle.vk_frames.specs.Each.{each}
use Rattle.vk_frames.specs.Frames.{FitsAs, lanes_of}
use Rattle.vk_passing.specs.Filled.{filled}
use Rattle.vk_passing.proofs.arguments.fill.Given as goal

abbrev pub invariant-loop-lane : goal.invariant-loop-lane
invariant-loop-lane g l = record {
  fits : FitsAs l.fn.callee l.callee;
  lanes : lanes_of l.callee ≡ each l.lane (λ j k. filled l.params (g.A.Arguments.words l.args) (g.A.Arguments.on l.args) j) (lanes_of l.fn.callee);
}
