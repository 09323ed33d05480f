-- Words of types, by the types' numbers.
use Rattle.std.proofs.Common.{◌≡◌, ℕ, zero, suc, ◌+◌, ◌^◌, ◌<◌, ◌≤◌, ◌==◌, ◌&&◌, ◌||◌, nat_lt, Bool, true, false, cond, ℤ, pos, ◌≤ℤ◌, int_le, List, [], ◌∷◌, Option, Some, None, ◌⊎◌, inl, inr, refl, ap, ap₂, sym, subst, ◌∙◌, arith, rules}
use Rattle.std.proofs.lemmas.Bool.{eqb-true, false≢true}
use Rattle.std.proofs.lemmas.Int.{SFits-int_wrap, ints}
use Rattle.std.proofs.lemmas.Option.{same_Some}
use Rattle.std.specs.Int.{w8, w16, w32, w64}
use Rattle.std.specs.Prelude.{slice_get}
use Rattle.vk_types.specs.declared.types.Ty.{Ty}
use Rattle.vk_types.specs.declared.types.Ty.TheVariants.{I8, I16, I32, I64, U8, U16, U32, U64}
use Rattle.vk_types.specs.Conversions.{greatest_of, least_of}
use Rattle.vk_types.specs.Formats.{type_number}
use Rattle.vk_types.specs.Numbers.{IsInRange, number_of, word_of, wrap_number}
use Rattle.vk_types.proofs.Wrapping.{rem_fits}
use Rattle.vk_kinds.specs.declared.heads.CType.{CType}
use Rattle.vk_kinds.specs.declared.heads.CType.TheVariants.{Void, Int, Ptr}
use Rattle.vk_kinds.specs.Types.{ctype_number}
use Rattle.vk_code.specs.Instruction.{type_numbered}
use Rattle.vk_code.specs.Listing.{number_of_some, reg_type}
use Rattle.vk_code.specs.Valid.{is_canonical, is_copy, is_written}
use Rattle.vk_code.proofs.Faults.{and_left, and_right}
use Rattle.vk_object.specs.Lane.{LaneState, element_of, ty_at, with_reg}
use Rattle.vk_runs.specs.Words.{HasWords, IsWordOf}

-- ---- numbers of types

pub number_small : (t : Ty) → type_number t < 8
number_small I8 = omega arith
number_small I16 = omega arith
number_small I32 = omega arith
number_small I64 = omega arith
number_small U8 = omega arith
number_small U16 = omega arith
number_small U32 = omega arith
number_small U64 = omega arith

own_number : (t : Ty) → type_numbered (type_number t) ≡ Some t
own_number I8 = refl
own_number I16 = refl
own_number I32 = refl
own_number I64 = refl
own_number U8 = refl
own_number U16 = refl
own_number U32 = refl
own_number U64 = refl

same_type : (t u : Ty) → type_number t ≡ type_number u → t ≡ u
same_type t u e = same_Some t u (sym (own_number t) ∙ (ap type_numbered e ∙ own_number u))

-- the type of a register's numbers, where it is one of an integer
pub ty_of_number : (o : Option CType) (t : Ty) → number_of_some o ≡ type_number t → element_of o ≡ t
ty_of_number None t e = absurd (omega (arith, e, number_small t))
ty_of_number (Some Void) t e = absurd (omega (arith, e, number_small t))
ty_of_number (Some (Int u)) t e = same_type u t e
ty_of_number (Some (Ptr u true)) t e = absurd (omega (arith, e, number_small t))
ty_of_number (Some (Ptr u false)) t e = absurd (omega (arith, e, number_small t))

-- ---- canonical words

number_back : (t : Ty) (z : ℤ) → IsInRange t z → number_of t (word_of z) ≡ z
number_back t z h = search rules

in_range : (t : Ty) (z : ℤ) → IsInRange t (wrap_number t z)
in_range I8 z = SFits-int_wrap w8 z
in_range I16 z = SFits-int_wrap w16 z
in_range I32 z = SFits-int_wrap w32 z
in_range I64 z = SFits-int_wrap w64 z
in_range U8 z = rem_fits w8 z
in_range U16 z = rem_fits w16 z
in_range U32 z = rem_fits w32 z
in_range U64 z = rem_fits w64 z

lower : (t : Ty) (z : ℤ) → IsInRange t z → least_of t ≤ℤ z
lower t z h = search rules

upper : (t : Ty) (z : ℤ) → IsInRange t z → z ≤ℤ greatest_of t
upper t z h = search rules

int_le-true : (x y : ℤ) → x ≤ℤ y → int_le x y ≡ true
int_le-true x y h = grind (arith, ints)

pub canonical_in_range : (t : Ty) (z : ℤ) → IsInRange t z → is_canonical t (word_of z) ≡ true
canonical_in_range t z h =
    ap₂ (λ a b. a && b) (ap (int_le (least_of t)) (number_back t z h) ∙ int_le-true (least_of t) z (lower t z h))
    (ap (λ n. int_le n (greatest_of t)) (number_back t z h) ∙ int_le-true z (greatest_of t) (upper t z h))

pub canonical_wrap : (t : Ty) (z : ℤ) → is_canonical t (word_of (wrap_number t z)) ≡ true
canonical_wrap t z = canonical_in_range t (wrap_number t z) (in_range t z)

lane_word : (j : ℕ) → j < 2 ^ 63 → word_of (pos j) ≡ j
lane_word j h = search rules

lane_in_range : (j : ℕ) → j < 2 ^ 63 → IsInRange I64 (pos j)
lane_in_range j h = search rules

pub canonical_lane : (j : ℕ) → j < 2 ^ 63 → is_canonical I64 j ≡ true
canonical_lane j h = subst (λ w. is_canonical I64 w ≡ true) (lane_word j h) (canonical_in_range I64 (pos j) (lane_in_range j h))

-- ---- words by numbers

pub at_number : (n : ℕ) (t : Ty) (w : ℕ) → n ≡ type_number t → is_canonical t w ≡ true → IsWordOf n w
at_number n t w e h u f = subst (λ x. is_canonical x w ≡ true) (same_type t u (sym e ∙ f)) h

pub no_integer : (n w : ℕ) → 8 ≤ n → IsWordOf n w
no_integer n w h t e = absurd (omega (arith, h, e, number_small t))

pub zero_word : (n : ℕ) → IsWordOf n 0
zero_word n t e = canonical_zero t
  where
    canonical_zero : (t : Ty) → is_canonical t 0 ≡ true
    canonical_zero I8 = refl
    canonical_zero I16 = refl
    canonical_zero I32 = refl
    canonical_zero I64 = refl
    canonical_zero U8 = refl
    canonical_zero U16 = refl
    canonical_zero U32 = refl
    canonical_zero U64 = refl

pub wrapped_at : (regs : List CType) (d : ℕ) (z : ℤ) → IsWordOf (reg_type regs d) (word_of (wrap_number (ty_at regs d) z))
wrapped_at regs d z t e = subst (λ u. is_canonical t (word_of (wrap_number u z)) ≡ true) (sym (ty_of_number (slice_get regs d) t e)) (canonical_wrap t z)

or_cases : (a b : Bool) → (a || b) ≡ true → (a ≡ true) ⊎ (b ≡ true)
or_cases true b h = inl refl
or_cases false b h = inr h

pub copied : (d a w : ℕ) → is_copy d a ≡ true → IsWordOf a w → IsWordOf d w
copied d a w h k t e = elim (or_cases (d == a) (is_written a && (d == a + 8)) (and_right (nat_lt a 24) ((d == a) || (is_written a && (d == a + 8))) h)) [
  | inl f ↦ k t (sym (eqb-true d a f) ∙ e)
  | inr f ↦ absurd (omega (arith, eqb-true d (a + 8) (and_right (is_written a) (d == a + 8) f), e, number_small t))
]

-- a register is written
pub put_word : (regs : List CType) (l : LaneState) (d w : ℕ) → HasWords regs l → IsWordOf (reg_type regs d) w → HasWords regs (with_reg l d w)
put_word regs l d w h k r = either (r == d) (eqb-true r d)
  where
    either : (t : Bool) → (t ≡ true → r ≡ d) → IsWordOf (reg_type regs r) (cond t w (l.reg r))
    either true e = subst (λ x. IsWordOf (reg_type regs x) w) (sym (e refl)) k
    either false e = h r
