-- What C's operators give on whole numbers (C17 6.5.3.3 and 6.5.5 to 6.5.12): the exact result, then the type's number of it.
-- Where C leaves a choice: signed results wrap, a shift's count is taken modulo the width, >> of a negative number is
-- arithmetic, and a divisor of 0 stops.
use Rattle.std.specs.Prelude.{ℕ, zero, suc, ◌+◌, ◌-◌, ◌*◌, ◌%◌, ◌^◌, min, max, Bool, true, false, not, cond, ℤ, pos, neg_ℤ, ◌+ℤ◌, ◌-ℤ◌, ◌*ℤ◌, int_div, int_rem, int_lt, int_le, unsigned_abs, Result, Ok, Err, ◌≡◌}
use Rattle.std.specs.Int.{int_div_euclid, int_rem_euclid}
use Rattle.std.specs.Ordering.{int_eq}
use Rattle.vk_types.specs.declared.types.Ty.{Ty}
use Rattle.vk_types.specs.declared.types.Ty.TheVariants.{I32}
use Rattle.vk_types.specs.declared.types.Word.{Word}
use Rattle.vk_types.specs.declared.types.Stop.{Stop}
use Rattle.vk_types.specs.declared.types.Stop.TheVariants.{Divide}
use Rattle.vk_types.specs.declared.types.Op1.{Op1}
use Rattle.vk_types.specs.declared.types.Op1.TheVariants.{Neg, Not}
use Rattle.vk_types.specs.declared.types.Op2.{Op2}
use Rattle.vk_types.specs.declared.types.Op2.TheVariants.{Add, Sub, Mul, Div, Rem, And, Or, Xor, Shl, Shr, Eq, Ne, Lt, Le}
use Rattle.vk_types.specs.Numbers.{width_of, wrap_number, number_of}

-- bit k of a number in two's complement, without end: 0 or 1
abbrev pub bit_of : ℤ → ℕ → ℕ
bit_of z k = unsigned_abs (int_rem_euclid (int_div_euclid z (pos (2 ^ k))) (pos 2))

-- the number whose lowest n bits are f 0, f 1, .., and whose others are 0
unfoldable pub from_bits : ℕ → (ℕ → ℕ) → ℕ
from_bits zero f = 0
from_bits (suc n) f = from_bits n f + f n * 2 ^ n

-- how far a shift goes
abbrev pub shift_count : Ty → ℤ → ℕ
shift_count t y = unsigned_abs (int_rem_euclid y (pos (width_of t)))

-- 1 where a comparison holds, else 0
abbrev pub truth : Bool → ℤ
truth true = pos 1
truth false = pos 0

-- a division or remainder by 0
abbrev pub divides_by_0 : Op2 → ℤ → Bool
divides_by_0 Div y = int_eq y (pos 0)
divides_by_0 Rem y = int_eq y (pos 0)
divides_by_0 op y = false

-- a quotient or remainder, which a divisor of 0 stops
abbrev pub divided : ℤ → ℤ → Result ℤ Stop
divided y z = cond (int_eq y (pos 0)) (Err Divide) (Ok z)

-- the exact result on a number of the type t
abbrev pub exact_unary : Op1 → Ty → ℤ → ℤ
exact_unary Neg t x = neg_ℤ x
exact_unary Not t x = pos (from_bits (width_of t) (λ k. 1 - bit_of x k))

-- the exact result on numbers of the type t; in a shift y is the number of the right operand's own type
abbrev pub exact : Op2 → Ty → ℤ → ℤ → Result ℤ Stop
exact Add t x y = Ok (x +ℤ y)
exact Sub t x y = Ok (x -ℤ y)
exact Mul t x y = Ok (x *ℤ y)
exact Div t x y = divided y (int_div x y)
exact Rem t x y = divided y (int_rem x y)
exact And t x y = Ok (pos (from_bits (width_of t) (λ k. min (bit_of x k) (bit_of y k))))
exact Or t x y = Ok (pos (from_bits (width_of t) (λ k. max (bit_of x k) (bit_of y k))))
exact Xor t x y = Ok (pos (from_bits (width_of t) (λ k. (bit_of x k + bit_of y k) % 2)))
exact Shl t x y = Ok (x *ℤ pos (2 ^ shift_count t y))
exact Shr t x y = Ok (int_div_euclid x (pos (2 ^ shift_count t y)))
exact Eq t x y = Ok (truth (int_eq x y))
exact Ne t x y = Ok (truth (not (int_eq x y)))
exact Lt t x y = Ok (truth (int_lt x y))
exact Le t x y = Ok (truth (int_le x y))

-- the type of the result: comparisons give an int
abbrev pub result_type : Op2 → Ty → Ty
result_type Add t = t
result_type Sub t = t
result_type Mul t = t
result_type Div t = t
result_type Rem t = t
result_type And t = t
result_type Or t = t
result_type Xor t = t
result_type Shl t = t
result_type Shr t = t
result_type Eq t = I32
result_type Ne t = I32
result_type Lt t = I32
result_type Le t = I32

-- a result's number of the type t
abbrev pub wrapped : Ty → Result ℤ Stop → Result ℤ Stop
wrapped t (Ok z) = Ok (wrap_number t z)
wrapped t (Err stop) = Err stop

-- the value of a unary operator
abbrev pub op1_number : Op1 → Ty → ℤ → ℤ
op1_number op t x = wrap_number t (exact_unary op t x)

-- the value or stop of a binary operator
abbrev pub op2_number : Op2 → Ty → ℤ → ℤ → Result ℤ Stop
op2_number op t x y = wrapped (result_type op t) (exact op t x y)

-- the word has the number of the result, or the stop is the result's
abbrev pub HasNumber : Ty → Result Word Stop → Result ℤ Stop → Type 0
HasNumber t (Ok w) r = r ≡ Ok (number_of t w.0)
HasNumber t (Err stop) r = r ≡ Err stop
