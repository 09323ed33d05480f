use Rattle.vk_frames.specs.Frames.{lanes_of}
use Rattle.vk_frames.proofs.Fitting.{fits_then}
use Rattle.vk_frames.proofs.Writes.{each_step}
use Rattle.vk_passing.specs.Taken.{taken_live}
use Rattle.vk_passing.proofs.results.take_all.Goals as goal

pub loop-lane-preserved : goal.loop-lane-preserved
loop-lane-preserved c = record {
  fits = fits_then c.args.frame.now c.loop-lane.frame c.take_live.new.frame c.loop-lane.invariant.fits c.take_live.ensures.fits;
  lanes = each_step c.loop-lane.lane (taken_live c.args.m c.args.register c.args.result_register (lanes_of c.args.callee.now)) (lanes_of c.args.frame.now) (lanes_of c.loop-lane.frame) (lanes_of c.take_live.new.frame) c.loop-lane.invariant.lanes c.take_live.ensures.lanes;
}
