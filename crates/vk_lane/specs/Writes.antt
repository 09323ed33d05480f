-- What an instruction does to a lane that writes a register or a mask.
use Rattle.std.specs.Prelude.{◌≡◌, ℕ, Bool, cond, ℤ, Option, Some, None, Result, Ok, Err}
use Rattle.vk_types.specs.declared.types.Stop.{Stop}
use Rattle.vk_types.specs.declared.types.Stop.TheVariants.{Bounds}
use Rattle.vk_types.specs.Numbers.{word_of}
use Rattle.vk_object.specs.Lane.{LaneState, View, is_live, with_reg, with_mask, with_stop, gives, stops}
use Rattle.vk_lane.specs.Places.{Share}
use Rattle.vk_lane.specs.Pieces.{Change}

-- a register gets a word, or the lane stops
abbrev pub written : View → (register : ℕ) → Result ℕ Stop → View
written v d (Ok w) = gives v d w
written v d (Err x) = stops v x

abbrev pub written_lane : LaneState → (register : ℕ) → Result ℕ Stop → LaneState
written_lane l d (Ok w) = with_reg l d w
written_lane l d (Err x) = with_stop l x

-- where the lane is live
abbrev pub written_share : (mask : ℕ) → Share → (register : ℕ) → Result ℕ Stop → Share
written_share m h d r = record { lane = cond (is_live m h.lane) (written_lane h.lane d r) h.lane; world = h.world }

abbrev pub Writes : (mask register : ℕ) → ((lane : ℕ) → Share → Result ℕ Stop) → Change
Writes m d r j h h' = h' ≡ written_share m h d (r j h)

-- a mask is set, whether the lane is live or not
abbrev pub Masks : (mask : ℕ) → (Share → Bool) → Change
Masks d b j h h' = h' ≡ record { lane = with_mask h.lane d (b h); world = h.world }

-- the word of a number that an operator gives
abbrev pub word_result : Result ℤ Stop → Result ℕ Stop
word_result (Ok z) = Ok (word_of z)
word_result (Err x) = Err x

-- a pointer that was moved, where it could be
abbrev pub pointer_result : Option ℕ → Result ℕ Stop
pointer_result None = Err Bounds
pointer_result (Some p) = Ok p
