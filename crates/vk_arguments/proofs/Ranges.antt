-- Which numbers are of a type.
use Rattle.std.proofs.Common.{◌≡◌, ◌^◌, ◌&&◌, Bool, true, false, cond, eqb, refl, ap, sym, ◌∙◌, subst, arith, Option, Some, None, ℤ, pos, negsuc, neg_ℤ, int_le, int_lt, option_and_then}
use Rattle.std.proofs.lemmas.Int.{ints, to_z-of_z}
use Rattle.std.proofs.lemmas.Bool.Decides.{Decides-int_eq, nat_tests}
use Rattle.std.proofs.lemmas.Map.Views.{exact_unsigned_eq}
use mir.Val.{SFits, of_z, to_z}
use mir.Syntax.{w128}
use Rattle.vk_types.specs.declared.types.Ty.{Ty}
use Rattle.vk_types.specs.declared.types.Ty.TheVariants.{I8, I16, I32, I64, U8, U16, U32, U64}
use Rattle.vk_types.specs.Numbers.{IsInRange, wrap_number}
use Rattle.vk_numbers.proofs.Numbers.{wrap_in_range, wrap_keeps}
use Rattle.vk_arguments.specs.Integers.{if_in_range, is_in_range}

-- what `is_in_range` says
pub range_told : (t : Ty) (z : ℤ) → is_in_range t z ≡ true → IsInRange t z
range_told t z h = subst (IsInRange t) ((Decides-int_eq (wrap_number t z) z).0 h) (wrap_in_range t z)

range_held : (t : Ty) (z : ℤ) → IsInRange t z → is_in_range t z ≡ true
range_held t z h = (Decides-int_eq (wrap_number t z) z).1 (wrap_keeps t z h)

-- a number that has 128 bits
abbrev pub is_wide : ℤ → Bool
is_wide z = int_le (neg_ℤ (pos (2 ^ 127))) z && int_lt z (pos (2 ^ 127))

abbrev pub if_wide : ℤ → Option ℤ
if_wide z = cond (is_wide z) (Some z) None

wide_of_range : (t : Ty) (z : ℤ) → IsInRange t z → is_wide z ≡ true
wide_of_range I8 (pos n) h = grind (arith, ints, nat_tests)
wide_of_range I8 (negsuc n) h = grind (arith, ints, nat_tests)
wide_of_range I16 (pos n) h = grind (arith, ints, nat_tests)
wide_of_range I16 (negsuc n) h = grind (arith, ints, nat_tests)
wide_of_range I32 (pos n) h = grind (arith, ints, nat_tests)
wide_of_range I32 (negsuc n) h = grind (arith, ints, nat_tests)
wide_of_range I64 (pos n) h = grind (arith, ints, nat_tests)
wide_of_range I64 (negsuc n) h = grind (arith, ints, nat_tests)
wide_of_range U8 (pos n) h = grind (arith, ints, nat_tests)
wide_of_range U8 (negsuc n) h = absurd (omega (arith, ints, h.0))
wide_of_range U16 (pos n) h = grind (arith, ints, nat_tests)
wide_of_range U16 (negsuc n) h = absurd (omega (arith, ints, h.0))
wide_of_range U32 (pos n) h = grind (arith, ints, nat_tests)
wide_of_range U32 (negsuc n) h = absurd (omega (arith, ints, h.0))
wide_of_range U64 (pos n) h = grind (arith, ints, nat_tests)
wide_of_range U64 (negsuc n) h = absurd (omega (arith, ints, h.0))

wide_held : (t : Ty) (z : ℤ) → is_in_range t z ≡ true → is_wide z ≡ true
wide_held t z h = wide_of_range t z (range_told t z h)

narrowed : (b c : Bool) (z : ℤ) → (b ≡ true → c ≡ true) → option_and_then (λ x. cond b (Some z) None) (cond c (Some z) None) ≡ cond b (Some z) None
narrowed true c z h = ap (λ d. option_and_then (λ x. Some z) (cond d (Some z) None)) (h refl)
narrowed false true z h = refl
narrowed false false z h = refl

narrow_cond : (t : Ty) (c : Bool) (z : ℤ) → option_and_then (if_in_range t) (cond c (Some z) None) ≡ option_and_then (λ x. cond (is_in_range t z) (Some z) None) (cond c (Some z) None)
narrow_cond t true z = refl
narrow_cond t false z = refl

-- a number of a type has 128 bits
pub narrow : (t : Ty) (o : Option ℤ) → option_and_then (if_in_range t) (option_and_then if_wide o) ≡ option_and_then (if_in_range t) o
narrow t None = refl
narrow t (Some z) = narrow_cond t (is_wide z) z ∙ narrowed (is_in_range t z) (is_wide z) z (wide_held t z)

same_truth : (a b : Bool) → (a ≡ true → b ≡ true) → (b ≡ true → a ≡ true) → a ≡ b
same_truth true b f g = sym (f refl)
same_truth false true f g = g refl
same_truth false false f g = refl

same_bits : (x y : ℤ) → SFits w128 x → SFits w128 y → of_z w128 x ≡ of_z w128 y → x ≡ y
same_bits x y f g e = sym (to_z-of_z w128 x f) ∙ ap (to_z w128) e ∙ to_z-of_z w128 y g

equal_bits : (x y : ℤ) → x ≡ y → eqb (of_z w128 x) (of_z w128 y) ≡ true
equal_bits x y e = let same : of_z w128 x ≡ of_z w128 y = ap (of_z w128) e in grind (arith, nat_tests)

-- wrapping keeps the numbers of the type, and no others
kept_in_range : (t : Ty) (z m : ℤ) → SFits w128 z → SFits w128 m → m ≡ wrap_number t z → eqb (of_z w128 m) (of_z w128 z) ≡ is_in_range t z
kept_in_range t z m f g wraps = same_truth _ _
    (λ e. let same : m ≡ z = same_bits m z g f (exact_unsigned_eq (of_z w128 m) (of_z w128 z) e) in range_held t z (subst (IsInRange t) (sym wraps ∙ same) (wrap_in_range t z)))
    (λ e. equal_bits m z (wraps ∙ wrap_keeps t z (range_told t z e)))

pub if_kept : (t : Ty) (z m : ℤ) → SFits w128 z → SFits w128 m → m ≡ wrap_number t z → eqb (of_z w128 m) (of_z w128 z) ≡ true → Some z ≡ if_in_range t z
if_kept t z m f g wraps e = ap (λ b. cond b (Some z) None) (sym e ∙ kept_in_range t z m f g wraps)

pub if_lost : (t : Ty) (z m : ℤ) → SFits w128 z → SFits w128 m → m ≡ wrap_number t z → eqb (of_z w128 m) (of_z w128 z) ≡ false → None ≡ if_in_range t z
if_lost t z m f g wraps e = ap (λ b. cond b (Some z) None) (sym e ∙ kept_in_range t z m f g wraps)
