use Rattle.std.proofs.Common.{◌≡◌, ap, arith, cond, ◌∙◌}
use Rattle.vk_lanes.specs.Masks.{is_on}
use Rattle.vk_object.specs.Lane.{with_stop}
use Rattle.vk_frames.specs.Each.{each}
use Rattle.vk_frames.specs.Frames.{lanes_of}
use Rattle.vk_frames.proofs.Fitting.{fits_then}
use Rattle.vk_frames.proofs.Writes.{each_step}
use Rattle.vk_frames.proofs.masks.stop_lanes.Goals as goal

pub loop-lane-preserved : goal.loop-lane-preserved
loop-lane-preserved c = record {
  fits = fits_then c.args.frame.now c.loop-lane.frame c.stop_lane.new.frame c.loop-lane.invariant.fits c.stop_lane.ensures.fits;
  lanes = each_step c.loop-lane.lane (λ j k. cond (is_on c.args.lanes.now j) (with_stop k c.args.stop) k) (lanes_of c.args.frame.now) (lanes_of c.loop-lane.frame) (lanes_of c.stop_lane.new.frame) c.loop-lane.invariant.lanes c.stop_lane.ensures.lanes;
}

pub returns-clause-lanes : goal.returns-clause-lanes
returns-clause-lanes c =
    let end : c.loop-lane.lane ≡ c.args.frame.now.lanes = omega arith in
    c.loop-lane.invariant.lanes ∙ ap (λ n. each n (λ j k. cond (is_on c.args.lanes.now j) (with_stop k c.args.stop) k) (lanes_of c.args.frame.now)) end
