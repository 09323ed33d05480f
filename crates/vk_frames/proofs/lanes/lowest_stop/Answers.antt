use Rattle.std.proofs.Common.{arith, sym, ◌∙◌}
use Rattle.vk_frames.specs.Frames.{lanes_of}
use Rattle.vk_frames.proofs.Live.{lowest_is}
use Rattle.vk_frames.proofs.lanes.lowest_stop.Goals as goal

pub returns-in-Some : goal.returns-in-Some
returns-in-Some c = sym (lowest_is c.args.frame.now.lanes c.loop-lane.lane (λ j. (lanes_of c.args.frame.now j).stop) c.in-Some.stop c.loop-lane.invariant (sym c.stop.ensures ∙ c.in-Some.is) (omega arith))
