use Rattle.std.proofs.Common.{◌≡◌, None}
use Rattle.vk_object.specs.Machine.{lowest_stop}
use Rattle.vk_frames.specs.Frames.{lanes_of}
use Rattle.vk_frames.proofs.lanes.lowest_stop.Given as goal

abbrev pub invariant-loop-lane : goal.invariant-loop-lane
invariant-loop-lane l = lowest_stop l.lane (λ j. (lanes_of l.frame j).stop) ≡ None
