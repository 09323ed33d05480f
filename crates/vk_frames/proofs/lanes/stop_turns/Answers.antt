use Rattle.std.proofs.Common.{arith, ◌∙◌}
use Rattle.vk_object.specs.Lane.{out_of_turns}
use Rattle.vk_frames.specs.Frames.{lanes_of}
use Rattle.vk_frames.proofs.Fitting.{fits_then}
use Rattle.vk_frames.proofs.Live.{all_out}
use Rattle.vk_frames.proofs.Writes.{each_step}
use Rattle.vk_frames.proofs.lanes.stop_turns.Goals as goal

pub loop-lane-preserved : goal.loop-lane-preserved
loop-lane-preserved c = record {
  fits = fits_then c.args.frame.now c.loop-lane.frame c.stop_turns_in.new.frame c.loop-lane.invariant.fits c.stop_turns_in.ensures.fits;
  lanes = each_step c.loop-lane.lane (λ j l. out_of_turns c.args.m l) (lanes_of c.args.frame.now) (lanes_of c.loop-lane.frame) (lanes_of c.stop_turns_in.new.frame) c.loop-lane.invariant.lanes c.stop_turns_in.ensures.lanes;
}

pub returns-clause-lanes : goal.returns-clause-lanes
returns-clause-lanes c =
    let f = c.args.frame.now in
    c.loop-lane.invariant.lanes ∙ all_out f.lanes f.registers f.words.now f.stops c.loop-lane.lane c.args.m (omega arith)
