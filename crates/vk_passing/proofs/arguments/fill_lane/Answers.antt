use Rattle.std.proofs.Common.{arith}
use Rattle.vk_frames.specs.Frames.{lanes_of}
use Rattle.vk_frames.proofs.Fitting.{fits_then}
use Rattle.vk_passing.proofs.Filling.{last_argument, next_argument}
use Rattle.vk_passing.proofs.arguments.fill_lane.Goals as goal

pub loop-parameter-preserved : goal.loop-parameter-preserved
loop-parameter-preserved g c = record {
  fits = fits_then c.args.callee.now c.loop-parameter.callee c.set_word.new.self c.loop-parameter.invariant.fits c.set_word.ensures.fits;
  lanes = next_argument (lanes_of c.args.callee.now) (lanes_of c.loop-parameter.callee) (lanes_of c.set_word.new.self) c.args.lane c.loop-parameter.parameter (g.A.Arguments.words c.args.args.now) c.word.result.0 c.loop-parameter.invariant.lanes c.set_word.ensures.lanes c.word.ensures;
}

pub returns-clause-lanes : goal.returns-clause-lanes
returns-clause-lanes g c = last_argument (lanes_of c.args.callee.now) (lanes_of c.loop-parameter.callee) (lanes_of c.set_on.new.self) c.args.lane c.loop-parameter.parameter c.args.params (g.A.Arguments.words c.args.args.now) (g.A.Arguments.on c.args.args.now) c.is_on.result c.loop-parameter.invariant.lanes (omega arith) c.set_on.ensures.lanes c.is_on.ensures
