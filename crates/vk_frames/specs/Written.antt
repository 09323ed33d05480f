-- A register written in some of the lanes of a frame.
use Rattle.std.specs.Prelude.{ℕ, Bool, cond}
use Rattle.vk_object.specs.Lane.{LaneState, with_reg}

-- register d gets a word in each lane that is on, a function of the lane; the other lanes are as before
abbrev pub gives_row : (ℕ → Bool) → ℕ → (ℕ → LaneState → ℕ) → (ℕ → LaneState) → ℕ → LaneState
gives_row on d word lane j = cond (on j) (with_reg (lane j) d (word j (lane j))) (lane j)
