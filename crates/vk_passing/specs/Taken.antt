-- What lanes take of a call's frame.
use Rattle.std.specs.Prelude.{ℕ, cond, Option}
use Rattle.vk_object.specs.Lane.{LaneState, is_live}
use Rattle.vk_object.specs.Machine.{takes, word_in}

-- lane i of the call's frame gives lane j its stop, or its result
abbrev pub taken : Option ℕ → Option ℕ → (ℕ → LaneState) → ℕ → LaneState → LaneState
taken slot result callee i l = takes slot l (word_in result (callee i)) (callee i).stop

-- where the lane is live in mask m
abbrev pub taken_live : ℕ → Option ℕ → Option ℕ → (ℕ → LaneState) → ℕ → LaneState → LaneState
taken_live m slot result callee j l = cond (is_live m l) (taken slot result callee j l) l
