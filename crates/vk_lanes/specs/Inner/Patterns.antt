-- Operators as the code computes them, on 64-bit patterns.
use Rattle.std.specs.Prelude.{ℕ, ◌+◌, ◌-◌, ◌*◌, ◌/◌, ◌%◌, ◌^◌, ◌==◌, nat_lt, nat_le, not, cond, bit_and, bit_or, bit_xor}
use Rattle.std.specs.Prelude.{Option, Some, None}
use Rattle.std.specs.Int.{w64, bit_not}
use Rattle.vk_types.specs.declared.types.Op1.{Op1}
use Rattle.vk_types.specs.declared.types.Op1.TheVariants as One
use Rattle.vk_types.specs.declared.types.Op2.{Op2}
use Rattle.vk_types.specs.declared.types.Op2.TheVariants as Two
use Rattle.vk_types.specs.declared.types.Ty.{Ty}
use Rattle.vk_types.specs.declared.types.Ty.TheVariants.{I8, I16, I32, I64, U8, U16, U32, U64}
use Rattle.vk_types.specs.Numbers.{width_of}
use Rattle.vk_lanes.specs.declared.patterns.Lanewise.{Lanewise}
use Rattle.vk_lanes.specs.declared.patterns.Lanewise.TheVariants.{Add, Sub, Mul, And, Or, Xor, Shl, Shr, Eq, Ne, Lt, Le, Neg, Not, Extend, Copy}

-- half of what the type's patterns are where it is signed, else 0
abbrev pub half_of : Ty → ℕ
half_of I8 = 2 ^ 7
half_of I16 = 2 ^ 15
half_of I32 = 2 ^ 31
half_of I64 = 2 ^ 63
half_of U8 = 0
half_of U16 = 0
half_of U32 = 0
half_of U64 = 0

-- 2^63 where it is signed, else 0: patterns moved by it have the order of their numbers
abbrev pub bias_of : Ty → ℕ
bias_of I8 = 2 ^ 63
bias_of I16 = 2 ^ 63
bias_of I32 = 2 ^ 63
bias_of I64 = 2 ^ 63
bias_of U8 = 0
bias_of U16 = 0
bias_of U32 = 0
bias_of U64 = 0

abbrev pub wrap_add : ℕ → ℕ → ℕ
wrap_add x y = (x + y) % 2 ^ 64

abbrev pub wrap_sub : ℕ → ℕ → ℕ
wrap_sub x y = (x + (2 ^ 64 - y)) % 2 ^ 64

-- sign or zero extended from the type's width
abbrev pub extended : Ty → ℕ → ℕ
extended t p = wrap_sub (bit_and (wrap_add p (half_of t)) (2 ^ width_of t - 1)) (half_of t)

abbrev pub biased : Ty → ℕ → ℕ
biased t p = wrap_add p (bias_of t)

abbrev pub count_of : Ty → ℕ → ℕ
count_of t y = bit_and y (width_of t - 1)

abbrev pub pattern : Lanewise → Ty → ℕ → ℕ → ℕ
pattern Add t x y = extended t (wrap_add x y)
pattern Sub t x y = extended t (wrap_sub x y)
pattern Mul t x y = extended t (x * y % 2 ^ 64)
pattern And t x y = extended t (bit_and x y)
pattern Or t x y = extended t (bit_or x y)
pattern Xor t x y = extended t (bit_xor x y)
pattern Shl t x y = extended t (x * 2 ^ count_of t y % 2 ^ 64)
pattern Shr t x y = wrap_sub (biased t x / 2 ^ count_of t y) (bias_of t / 2 ^ count_of t y)
pattern Eq t x y = cond (x == y) 1 0
pattern Ne t x y = cond (not (x == y)) 1 0
pattern Lt t x y = cond (nat_lt (biased t x) (biased t y)) 1 0
pattern Le t x y = cond (nat_le (biased t x) (biased t y)) 1 0
pattern Neg t x y = extended t (wrap_sub 0 x)
pattern Not t x y = extended t (bit_not w64 x)
pattern Extend t x y = extended t x
pattern Copy t x y = x

-- how the code computes an operator, but for quotients and remainders
abbrev pub lanewise_of : Op2 → Option Lanewise
lanewise_of Two.Add = Some Add
lanewise_of Two.Sub = Some Sub
lanewise_of Two.Mul = Some Mul
lanewise_of Two.Div = None
lanewise_of Two.Rem = None
lanewise_of Two.And = Some And
lanewise_of Two.Or = Some Or
lanewise_of Two.Xor = Some Xor
lanewise_of Two.Shl = Some Shl
lanewise_of Two.Shr = Some Shr
lanewise_of Two.Eq = Some Eq
lanewise_of Two.Ne = Some Ne
lanewise_of Two.Lt = Some Lt
lanewise_of Two.Le = Some Le

abbrev pub lanewise1_of : Op1 → Lanewise
lanewise1_of One.Neg = Neg
lanewise1_of One.Not = Not
