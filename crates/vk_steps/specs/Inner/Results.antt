-- What a lane has of a word or a stop.
use Rattle.std.specs.Prelude.{◌≡◌, ℕ, Bool, true, false, Option, Some, None, Result, Ok, Err}
use Rattle.vk_types.specs.declared.types.Stop.{Stop}
use Rattle.vk_types.specs.declared.types.Stop.TheVariants.{Bounds}
use Rattle.vk_types.specs.declared.types.Op2.{Op2}
use Rattle.vk_types.specs.declared.types.Op2.TheVariants.{Div, Rem}
use Rattle.vk_types.specs.declared.types.Word.{Word}
use Rattle.vk_object.specs.Lane.{LaneState, with_reg, with_stop}

abbrev pub with_result : LaneState → ℕ → Result Word Stop → LaneState
with_result l d (Ok w) = with_reg l d w.0
with_result l d (Err x) = with_stop l x

-- the word is the pointer, or there is none
abbrev pub HasPointer : Result Word Stop → Option ℕ → Type 0
HasPointer (Ok w) o = o ≡ Some w.0
HasPointer (Err x) o = (x ≡ Bounds) × (o ≡ None)

-- the operators that a right operand of 0 stops
abbrev pub is_division : Op2 → Bool
is_division Div = true
is_division Rem = true
is_division op = false
