-- Lanes that are not on, or have stopped.
use Rattle.std.specs.Prelude.{◌≡◌, ℕ, false}
use Rattle.vk_object.specs.Lane.{LaneState, is_live}

-- it is live in no mask
abbrev pub IsAtRest : LaneState → Type 0
IsAtRest l = (m : ℕ) → is_live m l ≡ false

-- it rests again, with the same registers and the same stop or none
pub record StaysAtRest (before after : LaneState) : Type 0 where
  pub registers : after.reg ≡ before.reg
  pub stop : after.stop ≡ before.stop
  pub rests : IsAtRest after
