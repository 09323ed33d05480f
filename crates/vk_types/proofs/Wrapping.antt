-- For proofs about wrapping at a width: remainders by 2 to the width, and the numbers of a range.
use Rattle.std.proofs.Common.{◌≡◌, ℕ, suc, ◌+◌, ◌-◌, ◌*◌, ◌/◌, ◌%◌, ◌^◌, ◌<◌, ◌≤◌, ℤ, pos, negsuc, ◌+ℤ◌, ◌*ℤ◌, neg_ℤ, FitsSigned, w8, w16, w32, w64, ap, ap₂, sym, ◌∙◌, inl, inr, refl, arith, lit<}
use Rattle.std.proofs.Math.IntN.{*ℤ-zero, +ℤ_idr, suc_ℤ, suc_ℤ-*ℤ}
use Rattle.std.proofs.Math.Nat.{mod-add-div, mod-eq_of_lt, mod-lt, mul_comm}
use Rattle.std.specs.Int.{w128, FitsUnsigned, Width, cast_signed, cast_unsigned, int_div_euclid, int_rem_euclid, int_wrap}
use Rattle.std.specs.Int.RustNames.{unsigned_abs}
use Rattle.std.proofs.lemmas.Int.{int_wrap_fits, int_wrap-add_right, int_wrap-mul_right, ints, of_z-to_z, to_z_pos}
use Rattle.std.proofs.Math.Facts.{to_z-neg}
use Rattle.std.proofs.lemmas.Bool.{cases_lt}
use mir.Val.{bits, hbits}

-- a multiple and what is left of it, below 0
below_zero : (a q m r n : ℕ) → m + q ≡ a → r + m + 1 ≡ n → negsuc a ≡ pos r +ℤ neg_ℤ (pos (q + n))
below_zero a q m r n e f = omega (arith, ints)

times_suc : (q n : ℕ) → suc q * n ≡ n * q + n
times_suc q n = grind arith

-- a number is a multiple and the remainder
pub euclid : (z : ℤ) (n : ℕ) → 0 < n → z ≡ int_rem_euclid z (pos n) +ℤ (int_div_euclid z (pos n) *ℤ pos n)
euclid (pos a) n h = ap pos (sym (ap (λ x. a % n + x) (mul_comm (a / n) n) ∙ mod-add-div a n))
euclid (negsuc a) n h =
    let under : a % n < n = mod-lt a h in
    below_zero a (n * (a / n)) (a % n) (n - 1 - a % n) n (mod-add-div a n) (omega arith) ∙ ap (λ x. pos (n - 1 - a % n) +ℤ neg_ℤ (pos x)) (sym (times_suc (a / n) n))

zero_wraps : (w : Width) → int_wrap w (pos (2 ^ bits w)) ≡ pos 0
unfolding int_wrap
zero_wraps w8 = refl
zero_wraps w16 = refl
zero_wraps w32 = refl
zero_wraps w64 = refl
zero_wraps w128 = refl

zero_stays : (w : Width) → int_wrap w (pos 0) ≡ pos 0
unfolding int_wrap
zero_stays w8 = refl
zero_stays w16 = refl
zero_stays w32 = refl
zero_stays w64 = refl
zero_stays w128 = refl

-- a multiple of what wraps to 0 does too, as one of 2 to the width
wrap_multiple : (w : Width) (n : ℕ) → int_wrap w (pos n) ≡ pos 0 → (m : ℤ) → int_wrap w (m *ℤ pos n) ≡ pos 0
wrap_multiple w n e m = sym (int_wrap-mul_right w m (pos n)) ∙ ap (λ x. int_wrap w (m *ℤ x)) e ∙ ap (int_wrap w) (*ℤ-zero m) ∙ zero_stays w

-- what differs by such a multiple wraps alike
wrap_alike_by : (w : Width) (n : ℕ) → int_wrap w (pos n) ≡ pos 0 → (r m : ℤ) → int_wrap w (r +ℤ (m *ℤ pos n)) ≡ int_wrap w r
wrap_alike_by w n e r m =
    sym (int_wrap-add_right w r (m *ℤ pos n)) ∙ ap (λ x. int_wrap w (r +ℤ x)) (wrap_multiple w n e m) ∙ ap (int_wrap w) (+ℤ_idr r)

wrap_alike : (w : Width) (r m : ℤ) → int_wrap w (r +ℤ (m *ℤ pos (2 ^ bits w))) ≡ int_wrap w r
wrap_alike w r m = wrap_alike_by w (2 ^ bits w) (zero_wraps w) r m

pub signed_only : (w : Width) (z r m : ℤ) → FitsSigned w r → z ≡ r +ℤ (m *ℤ pos (2 ^ bits w)) → r ≡ int_wrap w z
signed_only w z r m fits e = sym (int_wrap_fits w r fits) ∙ sym (wrap_alike w r m) ∙ ap (int_wrap w) (sym e)

pub positive : (w : Width) → 0 < 2 ^ bits w
positive w8 = lit< tt
positive w16 = lit< tt
positive w32 = lit< tt
positive w64 = lit< tt
positive w128 = lit< tt

-- a remainder is a number below the divisor
rem_abs : (z : ℤ) (n : ℕ) → int_rem_euclid z (pos n) ≡ pos (unsigned_abs (int_rem_euclid z (pos n)))
rem_abs (pos a) n = refl
rem_abs (negsuc a) n = refl

pub rem_below : (z : ℤ) (n : ℕ) → 0 < n → unsigned_abs (int_rem_euclid z (pos n)) < n
rem_below (pos a) n h = mod-lt a h
rem_below (negsuc a) n h = omega arith

-- the remainder, from what is left in the signed type
pub rem_of_wrap : (w : Width) (z : ℤ) → int_rem_euclid z (pos (2 ^ bits w)) ≡ pos (cast_unsigned w (int_wrap w z))
unfolding int_wrap
rem_of_wrap w z =
    rem_abs z (2 ^ bits w) ∙ ap pos (sym (of_z-to_z w (unsigned_abs (int_rem_euclid z (pos (2 ^ bits w)))) (rem_below z (2 ^ bits w) (positive w))))

rem_small : (w : Width) (r : ℤ) → FitsUnsigned w r → int_rem_euclid r (pos (2 ^ bits w)) ≡ r
rem_small w (pos k) fits = let small : k < 2 ^ bits w = omega (arith, ints, fits.1) in ap pos (mod-eq_of_lt small)
rem_small w (negsuc k) fits = absurd (omega (arith, ints, fits.0))

pub unsigned_only : (w : Width) (z r m : ℤ) → FitsUnsigned w r → z ≡ r +ℤ (m *ℤ pos (2 ^ bits w)) → r ≡ int_rem_euclid z (pos (2 ^ bits w))
unsigned_only w z r m fits e =
    sym (rem_small w r fits) ∙ rem_of_wrap w r ∙ ap (λ x. pos (cast_unsigned w x)) (sym (wrap_alike w r m) ∙ ap (int_wrap w) (sym e)) ∙ sym (rem_of_wrap w z)

-- the remainder is in the unsigned range
pub rem_fits : (w : Width) (z : ℤ) → FitsUnsigned w (int_rem_euclid z (pos (2 ^ bits w)))
rem_fits w z = rw (rem_abs z (2 ^ bits w)) (let under = rem_below z (2 ^ bits w) (positive w) in (omega (arith, ints), omega (arith, ints)))

-- the upper half of the bits are the numbers below 0
halves : (w : Width) → 2 ^ bits w ≡ 2 ^ hbits w + 2 ^ hbits w
halves w8 = refl
halves w16 = refl
halves w32 = refl
halves w64 = refl
halves w128 = refl

pub upper : (w : Width) (n : ℕ) → n < 2 ^ bits w → 2 ^ hbits w ≤ n → cast_signed w n ≡ negsuc (2 ^ bits w - suc n)
upper w n below past =
    let back : 2 ^ bits w - suc (2 ^ bits w - suc n) ≡ n = omega arith in
    ap (cast_signed w) (sym back) ∙ to_z-neg w (2 ^ bits w - suc n) (omega (arith, halves w))

one_more : (n k m : ℕ) (x : ℤ) → k + suc n ≡ m → pos n +ℤ x ≡ negsuc k +ℤ (x +ℤ pos m)
one_more n k m x h = omega (arith, ints)

pub wrap_by_rem : (w : Width) (z : ℤ) (n : ℕ) → int_rem_euclid z (pos (2 ^ bits w)) ≡ pos n → int_wrap w z ≡ cast_signed w n
unfolding int_wrap
wrap_by_rem w z n e = ap (λ x. cast_signed w (unsigned_abs x)) e

-- a number is what it wraps to and a multiple: one more where the remainder is in the upper half
pub signed_multiple : (w : Width) (z : ℤ) → (m : ℤ) × (z ≡ int_wrap w z +ℤ (m *ℤ pos (2 ^ bits w)))
signed_multiple w z =
    let n = unsigned_abs (int_rem_euclid z (pos (2 ^ bits w))) in
    let q = int_div_euclid z (pos (2 ^ bits w)) in
    let below : n < 2 ^ bits w = rem_below z (2 ^ bits w) (positive w) in
    let parts : z ≡ pos n +ℤ (q *ℤ pos (2 ^ bits w)) = euclid z (2 ^ bits w) (positive w) ∙ ap (λ x. x +ℤ (q *ℤ pos (2 ^ bits w))) (rem_abs z (2 ^ bits w)) in
    let wraps : int_wrap w z ≡ cast_signed w n = wrap_by_rem w z n (rem_abs z (2 ^ bits w)) in
    elim (cases_lt n (2 ^ hbits w)) [
      | inl low ↦ (q, parts ∙ ap (λ x. x +ℤ (q *ℤ pos (2 ^ bits w))) (sym (wraps ∙ to_z_pos w n low)))
      | inr high ↦ (
        suc_ℤ q,
        parts ∙ one_more n (2 ^ bits w - suc n) (2 ^ bits w) (q *ℤ pos (2 ^ bits w)) (omega arith)
            ∙ ap₂ (λ x y. x +ℤ y) (sym (wraps ∙ upper w n below high)) (sym (suc_ℤ-*ℤ q (pos (2 ^ bits w)))),
      )
    ]

-- the same for the unsigned type
pub unsigned_multiple : (w : Width) (z : ℤ) → (m : ℤ) × (z ≡ int_rem_euclid z (pos (2 ^ bits w)) +ℤ (m *ℤ pos (2 ^ bits w)))
unsigned_multiple w z = (int_div_euclid z (pos (2 ^ bits w)), euclid z (2 ^ bits w) (positive w))

-- to wrap at 64 bits on the way changes nothing
pub wrap_twice : (w : Width) → int_wrap w (pos (2 ^ 64)) ≡ pos 0 → (z : ℤ) → int_wrap w (int_wrap w64 z) ≡ int_wrap w z
wrap_twice w e z = sym (ap (int_wrap w) (signed_multiple w64 z).1 ∙ wrap_alike_by w (2 ^ 64) e (int_wrap w64 z) (signed_multiple w64 z).0)

pub rem_twice : (w : Width) → int_wrap w (pos (2 ^ 64)) ≡ pos 0 → (z : ℤ) → int_rem_euclid (int_wrap w64 z) (pos (2 ^ bits w)) ≡ int_rem_euclid z (pos (2 ^ bits w))
rem_twice w e z = rem_of_wrap w (int_wrap w64 z) ∙ ap (λ x. pos (cast_unsigned w x)) (wrap_twice w e z) ∙ sym (rem_of_wrap w z)
