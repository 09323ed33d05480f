-- Numbers and words of the integer types on LP64: ranges (C17 6.2.6.2), conversion (C17 6.3.1.3) and 64-bit patterns.
use Rattle.std.specs.Prelude.{◌≡◌, ℕ, ◌^◌, ◌<◌, ℤ, pos, ◌+ℤ◌, ◌*ℤ◌, FitsSigned}
use Rattle.std.specs.Int.{FitsUnsigned, w8, w16, w32, w64, cast_signed, cast_unsigned, int_rem_euclid, int_wrap}
use Rattle.vk_types.specs.declared.types.Ty.{Ty}
use Rattle.vk_types.specs.declared.types.Ty.TheVariants.{I8, I16, I32, I64, U8, U16, U32, U64}

-- how many bits a number of the type has
abbrev pub width_of : Ty → ℕ
width_of I8 = 8
width_of I16 = 16
width_of I32 = 32
width_of I64 = 64
width_of U8 = 8
width_of U16 = 16
width_of U32 = 32
width_of U64 = 64

-- the number is one of the type's: from -2^(width - 1) up to 2^(width - 1), or from 0 up to 2^width
abbrev pub IsInRange : Ty → ℤ → Type 0
IsInRange I8 z = FitsSigned w8 z
IsInRange I16 z = FitsSigned w16 z
IsInRange I32 z = FitsSigned w32 z
IsInRange I64 z = FitsSigned w64 z
IsInRange U8 z = FitsUnsigned w8 z
IsInRange U16 z = FitsUnsigned w16 z
IsInRange U32 z = FitsUnsigned w32 z
IsInRange U64 z = FitsUnsigned w64 z

-- r is the number of the type's range that differs from z by a multiple of 2 to the width
pub record IsWrapOf (t : Ty) (z r : ℤ) : Type 0 where
  pub in_range : IsInRange t r
  pub multiple : ℤ
  pub differs : z ≡ r +ℤ (multiple *ℤ pos (2 ^ width_of t))

-- that number
abbrev pub wrap_number : Ty → ℤ → ℤ
wrap_number I8 z = int_wrap w8 z
wrap_number I16 z = int_wrap w16 z
wrap_number I32 z = int_wrap w32 z
wrap_number I64 z = int_wrap w64 z
wrap_number U8 z = int_rem_euclid z (pos (2 ^ 8))
wrap_number U16 z = int_rem_euclid z (pos (2 ^ 16))
wrap_number U32 z = int_rem_euclid z (pos (2 ^ 32))
wrap_number U64 z = int_rem_euclid z (pos (2 ^ 64))

-- the 64-bit pattern of a number, two's complement
abbrev pub word_of : ℤ → ℕ
word_of z = cast_unsigned w64 z

-- the number that a 64-bit pattern stands for
abbrev pub number_of : Ty → ℕ → ℤ
number_of I8 w = cast_signed w64 w
number_of I16 w = cast_signed w64 w
number_of I32 w = cast_signed w64 w
number_of I64 w = cast_signed w64 w
number_of U8 w = pos w
number_of U16 w = pos w
number_of U32 w = pos w
number_of U64 w = pos w

-- the pattern is that of a number of the type's range
abbrev pub IsCanonical : Ty → ℕ → Type 0
IsCanonical t w = (w < 2 ^ 64) × IsInRange t (number_of t w)
