-- Words of pointers.
use Rattle.std.proofs.Common.{◌≡◌, ℕ, ◌<◌, ◌+◌, ◌*◌, ◌/◌, ◌^◌, Bool, true, false, not, ◌&&◌, List, length, refl, sym, subst, arith, Option, Some, None, ℤ, IfSome, rules}
use Rattle.std.specs.Int.{w32, cast_unsigned}
use mir.Val.{SFits}
use mir.ValLaws as laws
use denote.Enum.Bare.{sameb}
use Rattle.vk_types.specs.declared.types.Ty.{Ty}
use Rattle.vk_types.specs.contracts.types.Ty.{the_type}
use Rattle.vk_kinds.specs.declared.heads.CType.TheVariants.{Ptr}
use Rattle.vk_meaning.specs.World.{Array, array_at}
use Rattle.vk_meaning.specs.Lanes.{IsPointee}
use Rattle.vk_pointer_texts.specs.Values.{may_point, pointer_to, word_at}
use Rattle.vk_arguments.specs.Typed.{IsValue}

same_ty : (a b : Ty) → sameb the_type a b ≡ true → a ≡ b
same_ty a b e = search rules

both : (a b : Bool) → (a && b) ≡ true → (a ≡ true) × (b ≡ true)
both true true e = (refl, refl)
both true false e = cc
both false b e = cc

writable : (written fixed : Bool) → not (written && fixed) ≡ true → written ≡ true → fixed ≡ false
writable true true e w = cc
writable true false e w = refl
writable false fixed e w = cc

pointee : (arrays : List Array) (to : Ty) (written : Bool) (a : ℕ) → a < length arrays → may_point (array_at arrays a) to written ≡ true → IsPointee arrays to written a
pointee arrays to written a inside may =
    let parts = both (sameb the_type (array_at arrays a).ty to) (not (written && (array_at arrays a).fixed)) may in record {
      there = inside;
      elements = same_ty (array_at arrays a).ty to parts.0;
      writable = writable written (array_at arrays a).fixed parts.1;
    }

high_part : (a low : ℕ) → low < 2 ^ 32 → (a * 2 ^ 32 + low) / 2 ^ 32 ≡ a
high_part a low h = omega arith

typed_by : (arrays : List Array) (to : Ty) (written : Bool) (a low : ℕ) → a < length arrays → a < 2 ^ 32 → low < 2 ^ 32 → may_point (array_at arrays a) to written ≡ true →
    IsValue arrays (Ptr to written) (record { 0 = a * 2 ^ 32 + low })
typed_by arrays to written a low inside small short may = record {
  word = omega arith;
  pointed = subst (IsPointee arrays to written) (sym (high_part a low short)) (pointee arrays to written a inside may);
}

low_short : (z : ℤ) → SFits w32 z → cast_unsigned w32 z < 2 ^ 32
low_short z fits = (laws.of_z_fits w32 z fits).fits

by_test : (arrays : List Array) (to : Ty) (written : Bool) (a : ℕ) (z : ℤ) (b : Bool) → a < length arrays → a < 2 ^ 32 → SFits w32 z → may_point (array_at arrays a) to written ≡ b →
    IfSome (word_at b a z) (IsValue arrays (Ptr to written))
by_test arrays to written a z true inside small fits e = typed_by arrays to written a (cast_unsigned w32 z) inside small (low_short z fits) e
by_test arrays to written a z false inside small fits e = tt

pub pointing : (arrays : List Array) (to : Ty) (written : Bool) (a : ℕ) (z : ℤ) → a < length arrays → a < 2 ^ 32 → SFits w32 z →
    IfSome (word_at (may_point (array_at arrays a) to written) a z) (IsValue arrays (Ptr to written))
pointing arrays to written a z inside small fits = by_test arrays to written a z (may_point (array_at arrays a) to written) inside small fits refl

-- the value of a text, where it has one
pub pointer_typed : (arrays : List Array) (to : Ty) (written : Bool) (number : Option ℕ) (offset : Option ℤ) (a : ℕ) (z : ℤ) → number ≡ Some a → offset ≡ Some z →
    a < length arrays → a < 2 ^ 32 → SFits w32 z → IfSome (pointer_to arrays to written number offset) (IsValue arrays (Ptr to written))
pointer_typed arrays to written None offset a z e f inside small fits = cc
pointer_typed arrays to written (Some b) None a z e f inside small fits = cc
pointer_typed arrays to written (Some b) (Some y) a z e f inside small fits =
    let same : a ≡ b = cc in
    let one : z ≡ y = cc in
    pointing arrays to written b y (subst (λ n. n < length arrays) same inside) (subst (λ n. n < 2 ^ 32) same small) (subst (SFits w32) one fits)
