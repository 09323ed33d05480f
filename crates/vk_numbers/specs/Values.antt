-- What an evaluation ends with: a number, or a stop.
use Rattle.std.specs.Prelude.{Bool, cond, ℤ, pos, Result, Ok, Err}
use Rattle.std.specs.Ordering.{int_eq}
use Rattle.vk_types.specs.declared.types.Ty.{Ty}
use Rattle.vk_types.specs.declared.types.Stop.{Stop}
use Rattle.vk_types.specs.Numbers.{wrap_number}
use Rattle.vk_types.specs.Operators.{truth}

pub data Value : Type 0 where
  got : (z : ℤ) → Value
  halts : (stop : Stop) → Value

-- goes on with the number; a stop stays
abbrev pub with_value : Value → (ℤ → Value) → Value
with_value (got z) next = next z
with_value (halts stop) next = halts stop

-- the value of an operator's result
abbrev pub value_of_result : Result ℤ Stop → Value
value_of_result (Ok z) = got z
value_of_result (Err stop) = halts stop

-- a number as one of the type (C17 6.3.1.3, with signed types as unsigned ones)
abbrev pub converted : Ty → ℤ → Value
converted t z = got (wrap_number t z)

-- a condition holds where its number is not 0: one value then, else another
abbrev pub chosen : ℤ → Value → Value → Value
chosen z first second = cond (int_eq z (pos 0)) second first

-- 1 where a condition holds, else 0
abbrev pub truth_value : Bool → Value
truth_value b = got (truth b)
