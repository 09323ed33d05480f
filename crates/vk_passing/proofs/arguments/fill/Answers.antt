use Rattle.std.proofs.Common.{◌≡◌, ℕ, ap, arith, ◌∙◌}
use Rattle.vk_object.specs.Lane.{LaneState}
use Rattle.vk_frames.specs.Each.{each}
use Rattle.vk_frames.specs.Frames.{lanes_of}
use Rattle.vk_frames.proofs.Fitting.{fits_then}
use Rattle.vk_frames.proofs.Writes.{each_step}
use Rattle.vk_passing.specs.Filled.{filled}
use Rattle.vk_passing.proofs.Filling.{all_filled, still_empty}
use Rattle.vk_passing.proofs.arguments.fill.Goals as goal

pub fill_lane-requires-clause-empty : goal.fill_lane-requires-clause-empty
fill_lane-requires-clause-empty g c =
    let f : ℕ → LaneState → LaneState = λ j k. filled c.args.params (g.A.Arguments.words c.args.args.now) (g.A.Arguments.on c.args.args.now) j in
    still_empty (lanes_of c.args.callee.now) (lanes_of c.loop-lane.callee) c.loop-lane.lane f c.loop-lane.invariant.lanes c.requires.empty

pub loop-lane-preserved : goal.loop-lane-preserved
loop-lane-preserved g c =
    let f : ℕ → LaneState → LaneState = λ j k. filled c.args.params (g.A.Arguments.words c.args.args.now) (g.A.Arguments.on c.args.args.now) j in
    record {
      fits = fits_then c.args.callee.now c.loop-lane.callee c.fill_lane.new.callee c.loop-lane.invariant.fits c.fill_lane.ensures.fits;
      lanes = each_step c.loop-lane.lane f (lanes_of c.args.callee.now) (lanes_of c.loop-lane.callee) (lanes_of c.fill_lane.new.callee) c.loop-lane.invariant.lanes c.fill_lane.ensures.lanes;
    }

pub returns-clause-lanes : goal.returns-clause-lanes
returns-clause-lanes g c =
    let f : ℕ → LaneState → LaneState = λ j k. filled c.args.params (g.A.Arguments.words c.args.args.now) (g.A.Arguments.on c.args.args.now) j in
    let all : c.loop-lane.lane ≡ c.args.callee.now.lanes = omega arith in
    c.loop-lane.invariant.lanes ∙ (ap (λ n. each n f (lanes_of c.args.callee.now)) all ∙ (ap (each c.args.callee.now.lanes f) c.requires.empty
    ∙ all_filled c.args.callee.now.lanes c.args.params (g.A.Arguments.words c.args.args.now) (g.A.Arguments.on c.args.args.now)))
