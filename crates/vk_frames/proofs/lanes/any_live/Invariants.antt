use Rattle.std.proofs.Common.{◌≡◌, false}
use Rattle.vk_object.specs.Machine.{any_live}
use Rattle.vk_frames.specs.Frames.{lanes_of}
use Rattle.vk_frames.proofs.lanes.any_live.Given as goal

abbrev pub invariant-loop-lane : goal.invariant-loop-lane
invariant-loop-lane l = any_live l.lane l.m (lanes_of l.frame) ≡ false
