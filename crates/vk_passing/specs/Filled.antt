-- The first lanes of a frame, one after another.
use Rattle.std.specs.Prelude.{ℕ, ◌==◌, nat_lt, Bool, false, ◌&&◌, cond, None}
use Rattle.vk_object.specs.Lane.{LaneState}

-- a lane whose first registers have their arguments, and which is on in no mask yet
abbrev pub given : ℕ → (ℕ → ℕ → ℕ) → ℕ → LaneState
given params args j = record { reg = λ r. cond (nat_lt r params) (args r j) 0; on = λ m. false; stop = None }

-- the same, and on in mask 0 where the call is
abbrev pub filled : ℕ → (ℕ → ℕ → ℕ) → (ℕ → Bool) → ℕ → LaneState
filled params args on j = record { reg = λ r. cond (nat_lt r params) (args r j) 0; on = λ m. (m == 0) && on j; stop = None }
