use Rattle.std.proofs.Common.{◌≡◌, ℕ, ◌<◌, None}
use Rattle.std.specs.Prelude.{slice_index_or}
use Rattle.vk_frames.specs.Frames.{lanes_of}
use Rattle.vk_direct.proofs.taken.take_stops.Given as goal

abbrev pub invariant-loop-lane : goal.invariant-loop-lane
invariant-loop-lane l = (j : ℕ) → j < l.lane → slice_index_or l.stops j None ≡ (lanes_of l.frame j).stop
