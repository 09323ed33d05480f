-- Numbers of a type's range, their words, and what operators give.
use Rattle.std.proofs.Common.{◌≡◌, ℕ, ◌^◌, ◌<◌, ◌%◌, ◌≤ℤ◌, ◌<ℤ◌, ℤ, pos, negsuc, w8, w16, w32, w64, ap, subst, arith, rules, Result, Ok, Err}
use Rattle.std.specs.Int.{int_rem_euclid}
use Rattle.std.proofs.Math.Nat.{mod-eq_of_lt, mod-lt}
use Rattle.std.proofs.lemmas.Int.{SFits-int_wrap, int_wrap_fits, ints}
use Rattle.vk_types.specs.declared.types.Ty.{Ty}
use Rattle.vk_types.specs.declared.types.Ty.TheVariants.{I8, I16, I32, I64, U8, U16, U32, U64}
use Rattle.vk_types.specs.declared.types.Stop.{Stop}
use Rattle.vk_types.specs.declared.types.Op1.{Op1}
use Rattle.vk_types.specs.declared.types.Op2.{Op2}
use Rattle.vk_types.specs.Numbers.{IsInRange, wrap_number, number_of, word_of, IsCanonical}
use Rattle.vk_types.specs.Operators.{op1_number, op2_number, exact, exact_unary, result_type, wrapped}

rem_fits : (n : ℕ) (z : ℤ) → 0 < n → (pos 0 ≤ℤ int_rem_euclid z (pos n)) × (int_rem_euclid z (pos n) <ℤ pos n)
rem_fits n (pos a) h = let under : a % n < n = mod-lt a h in (omega (arith, ints), omega (arith, ints))
rem_fits n (negsuc a) h = let under : a % n < n = mod-lt a h in (omega (arith, ints), omega (arith, ints))

rem_keeps : (n : ℕ) (z : ℤ) → pos 0 ≤ℤ z → z <ℤ pos n → int_rem_euclid z (pos n) ≡ z
rem_keeps n (pos a) low high = let under : a < n = omega (arith, ints) in ap pos (mod-eq_of_lt under)
rem_keeps n (negsuc a) low high = absurd (omega (arith, ints))

-- what wraps is in range
pub wrap_in_range : (t : Ty) (z : ℤ) → IsInRange t (wrap_number t z)
wrap_in_range I8 z = SFits-int_wrap w8 z
wrap_in_range I16 z = SFits-int_wrap w16 z
wrap_in_range I32 z = SFits-int_wrap w32 z
wrap_in_range I64 z = SFits-int_wrap w64 z
wrap_in_range U8 z = rem_fits (2 ^ 8) z (omega arith)
wrap_in_range U16 z = rem_fits (2 ^ 16) z (omega arith)
wrap_in_range U32 z = rem_fits (2 ^ 32) z (omega arith)
wrap_in_range U64 z = rem_fits (2 ^ 64) z (omega arith)

-- a number of the range stays
pub wrap_keeps : (t : Ty) (z : ℤ) → IsInRange t z → wrap_number t z ≡ z
wrap_keeps I8 z h = int_wrap_fits w8 z h
wrap_keeps I16 z h = int_wrap_fits w16 z h
wrap_keeps I32 z h = int_wrap_fits w32 z h
wrap_keeps I64 z h = int_wrap_fits w64 z h
wrap_keeps U8 z h = rem_keeps (2 ^ 8) z h.0 h.1
wrap_keeps U16 z h = rem_keeps (2 ^ 16) z h.0 h.1
wrap_keeps U32 z h = rem_keeps (2 ^ 32) z h.0 h.1
wrap_keeps U64 z h = rem_keeps (2 ^ 64) z h.0 h.1

-- its word has it
pub number_of-word : (t : Ty) (z : ℤ) → IsInRange t z → number_of t (word_of z) ≡ z
number_of-word t z h = search rules

pub word_of-number : (t : Ty) (w : ℕ) → IsCanonical t w → word_of (number_of t w) ≡ w
word_of-number t w h = search rules

pub canonical_word : (t : Ty) (z : ℤ) → IsInRange t z → IsCanonical t (word_of z)
canonical_word t z h = search rules

pub op1_in_range : (op : Op1) (t : Ty) (x : ℤ) → IsInRange t (op1_number op t x)
op1_in_range op t x = wrap_in_range t (exact_unary op t x)

wrapped_in_range : (t : Ty) (r : Result ℤ Stop) (z : ℤ) → wrapped t r ≡ Ok z → IsInRange t z
wrapped_in_range t (Ok x) z e = let same : wrap_number t x ≡ z = cc in subst (IsInRange t) same (wrap_in_range t x)
wrapped_in_range t (Err stop) z e = cc

pub op2_in_range : (op : Op2) (t : Ty) (x y z : ℤ) → op2_number op t x y ≡ Ok z → IsInRange (result_type op t) z
op2_in_range op t x y z e = wrapped_in_range (result_type op t) (exact op t x y) z e
