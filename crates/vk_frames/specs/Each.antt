-- What is done in each lane.
use Rattle.std.specs.Prelude.{ℕ, nat_lt, cond}
use Rattle.vk_object.specs.Lane.{LaneState}

-- f in each of the first n lanes; the others as before
abbrev pub each : ℕ → (ℕ → LaneState → LaneState) → (ℕ → LaneState) → ℕ → LaneState
each n f lane j = cond (nat_lt j n) (f j (lane j)) (lane j)
