-- What the code computes on 64-bit patterns is the pattern of what the definitions of operators give on numbers.
use Rattle.std.proofs.Common.{◌≡◌, ℕ, suc, ◌+◌, ◌-◌, ◌*◌, ◌/◌, ◌%◌, ◌^◌, ◌<◌, ◌≤◌, inl, inr, Bool, true, false, not, cond, ltb, leb, eqb, max, min, IfSome, bit_and, bit_or, bit_xor, ℤ, pos, negsuc, ◌+ℤ◌, ◌-ℤ◌, ◌*ℤ◌, neg_ℤ, w8, w16, w32, w64, ap, ap₂, sym, ◌∙◌, refl, arith, lit<}
use Rattle.std.proofs.Math.Nat.{add-mul-div_right, div-add-mod, div-le_self, mod-eq_of_lt, mod-lt, zero-div}
use Rattle.std.proofs.Math.Pow.{pow_pos}
use Rattle.std.proofs.lemmas.Nat.{and_le_r, and_mask, div-mul-add, div_below, pow-add}
use Rattle.std.proofs.lemmas.Int.{int_wrap_fits, of_z-to_z, to_z_pos, int_wrap-add_left, int_wrap-add_right, ints, int_wrap-sub_right, wrapping_add-bits, wrapping_sub-bits}
use Rattle.std.proofs.lemmas.Bool.{cases_lt}
use Rattle.std.proofs.lemmas.Bool.Decides.{Decides-eqb, Decides-int_eq, Decides-like, Decides-ltb, nat_tests, same_from_decides}
use Rattle.std.specs.Ordering.{int_eq}
use Rattle.std.specs.Prelude.{FitsSigned, int_le, int_lt, unsigned_abs, ◌<ℤ◌}
use Rattle.std.specs.Int.{Width, bit_not, cast_signed, int_div_euclid, int_rem_euclid, int_wrap}
use Rattle.vk_types.specs.declared.types.Ty.{Ty}
use Rattle.vk_types.specs.declared.types.Ty.TheVariants.{I8, I16, I32, I64, U8, U16, U32, U64}
use Rattle.vk_types.specs.Numbers.{IsCanonical, number_of, width_of, word_of, wrap_number}
use Rattle.vk_types.specs.declared.types.Op1.{Op1}
use Rattle.vk_types.specs.declared.types.Op1.TheVariants.{Neg, Not}
use Rattle.vk_types.specs.declared.types.Op2.{Op2}
use Rattle.vk_types.specs.declared.types.Op2.TheVariants.{Add, Sub, Mul, Div, Rem, And, Or, Xor, Shl, Shr, Eq, Ne, Lt, Le}
use Rattle.vk_types.specs.Operators.{bit_of, exact_unary, from_bits, shift_count, truth}
use Rattle.vk_types.proofs.Patterns.{and_of_patterns, not_of_pattern, or_of_patterns, pattern as number_pattern, product_of_patterns, shifted_pattern, unsigned_pattern, wraps_by_pattern, xor_of_patterns}
use Rattle.vk_lanes.proofs.Vectors.{count-lt}
use Rattle.vk_types.proofs.Wrapping.{positive, upper, wrap_by_rem}
use Rattle.vk_lanes.specs.declared.patterns.Lanewise.TheVariants.{Extend}
use Rattle.vk_lanes.specs.Kernels.{AreOperands, convert_word, op1_word, op2_word}
use Rattle.vk_lanes.specs.Inner.Patterns.{bias_of, biased, count_of, extended, half_of, lanewise1_of, lanewise_of, pattern, wrap_add, wrap_sub}
use mir.Val.{bits, hbits}

-- ---- extension

low_8 : (p : ℕ) → p % 2 ^ 8 < 2 ^ 7 → ((p + 2 ^ 7) % 2 ^ 64 % 2 ^ 8 + (2 ^ 64 - 2 ^ 7)) % 2 ^ 64 ≡ p % 2 ^ 8
low_8 p h = omega arith

high_8 : (p : ℕ) → 2 ^ 7 ≤ p % 2 ^ 8 → ((p + 2 ^ 7) % 2 ^ 64 % 2 ^ 8 + (2 ^ 64 - 2 ^ 7)) % 2 ^ 64 ≡ 2 ^ 64 - suc (2 ^ 8 - suc (p % 2 ^ 8))
high_8 p h = omega arith

plain_8 : (p : ℕ) → ((p + 0) % 2 ^ 64 % 2 ^ 8 + (2 ^ 64 - 0)) % 2 ^ 64 ≡ p % 2 ^ 8
plain_8 p = omega arith

low_16 : (p : ℕ) → p % 2 ^ 16 < 2 ^ 15 → ((p + 2 ^ 15) % 2 ^ 64 % 2 ^ 16 + (2 ^ 64 - 2 ^ 15)) % 2 ^ 64 ≡ p % 2 ^ 16
low_16 p h = omega arith

high_16 : (p : ℕ) → 2 ^ 15 ≤ p % 2 ^ 16 → ((p + 2 ^ 15) % 2 ^ 64 % 2 ^ 16 + (2 ^ 64 - 2 ^ 15)) % 2 ^ 64 ≡ 2 ^ 64 - suc (2 ^ 16 - suc (p % 2 ^ 16))
high_16 p h = omega arith

plain_16 : (p : ℕ) → ((p + 0) % 2 ^ 64 % 2 ^ 16 + (2 ^ 64 - 0)) % 2 ^ 64 ≡ p % 2 ^ 16
plain_16 p = omega arith

low_32 : (p : ℕ) → p % 2 ^ 32 < 2 ^ 31 → ((p + 2 ^ 31) % 2 ^ 64 % 2 ^ 32 + (2 ^ 64 - 2 ^ 31)) % 2 ^ 64 ≡ p % 2 ^ 32
low_32 p h = omega arith

high_32 : (p : ℕ) → 2 ^ 31 ≤ p % 2 ^ 32 → ((p + 2 ^ 31) % 2 ^ 64 % 2 ^ 32 + (2 ^ 64 - 2 ^ 31)) % 2 ^ 64 ≡ 2 ^ 64 - suc (2 ^ 32 - suc (p % 2 ^ 32))
high_32 p h = omega arith

plain_32 : (p : ℕ) → ((p + 0) % 2 ^ 64 % 2 ^ 32 + (2 ^ 64 - 0)) % 2 ^ 64 ≡ p % 2 ^ 32
plain_32 p = omega arith

low_64 : (p : ℕ) → p % 2 ^ 64 < 2 ^ 63 → ((p + 2 ^ 63) % 2 ^ 64 % 2 ^ 64 + (2 ^ 64 - 2 ^ 63)) % 2 ^ 64 ≡ p % 2 ^ 64
low_64 p h = omega arith

high_64 : (p : ℕ) → 2 ^ 63 ≤ p % 2 ^ 64 → ((p + 2 ^ 63) % 2 ^ 64 % 2 ^ 64 + (2 ^ 64 - 2 ^ 63)) % 2 ^ 64 ≡ 2 ^ 64 - suc (2 ^ 64 - suc (p % 2 ^ 64))
high_64 p h = omega arith

plain_64 : (p : ℕ) → ((p + 0) % 2 ^ 64 % 2 ^ 64 + (2 ^ 64 - 0)) % 2 ^ 64 ≡ p % 2 ^ 64
plain_64 p = omega arith

-- what is left in the lower half is the number's pattern, and in the upper half that of one below 0
signed : (w : Width) (p e : ℕ) → (p % 2 ^ bits w < 2 ^ hbits w → e ≡ p % 2 ^ bits w) → (2 ^ hbits w ≤ p % 2 ^ bits w → e ≡ 2 ^ 64 - suc (2 ^ bits w - suc (p % 2 ^ bits w))) → e ≡ word_of (int_wrap w (pos p))
signed w p e low high = elim (cases_lt (p % 2 ^ bits w) (2 ^ hbits w)) [
  | inl l ↦ low l ∙ ap word_of (sym (wrap_by_rem w (pos p) (p % 2 ^ bits w) refl ∙ to_z_pos w (p % 2 ^ bits w) l))
  | inr h ↦ high h ∙ ap word_of (sym (wrap_by_rem w (pos p) (p % 2 ^ bits w) refl ∙ upper w (p % 2 ^ bits w) (mod-lt p (positive w)) h))
]

masked : (t : Ty) (k p : ℕ) → width_of t ≡ k → extended t p ≡ ((p + half_of t) % 2 ^ 64 % 2 ^ k + (2 ^ 64 - half_of t)) % 2 ^ 64
masked t k p e = ap (λ k. wrap_sub (bit_and (wrap_add p (half_of t)) (2 ^ k - 1)) (half_of t)) e ∙ ap (λ q. wrap_sub q (half_of t)) (and_mask (wrap_add p (half_of t)) k)

-- the extension of a pattern is the word of what it wraps to
extended_pattern : (t : Ty) (p : ℕ) → extended t p ≡ word_of (wrap_number t (pos p))
extended_pattern I8 p = masked I8 8 p refl ∙ signed w8 p _ (low_8 p) (high_8 p)
extended_pattern I16 p = masked I16 16 p refl ∙ signed w16 p _ (low_16 p) (high_16 p)
extended_pattern I32 p = masked I32 32 p refl ∙ signed w32 p _ (low_32 p) (high_32 p)
extended_pattern I64 p = masked I64 64 p refl ∙ signed w64 p _ (low_64 p) (high_64 p)
extended_pattern U8 p = masked U8 8 p refl ∙ plain_8 p
extended_pattern U16 p = masked U16 16 p refl ∙ plain_16 p
extended_pattern U32 p = masked U32 32 p refl ∙ plain_32 p
extended_pattern U64 p = masked U64 64 p refl ∙ plain_64 p

extended_is : (t : Ty) (p : ℕ) (z : ℤ) → wrap_number t (pos p) ≡ wrap_number t z → extended t p ≡ word_of (wrap_number t z)
extended_is t p z e = extended_pattern t p ∙ ap word_of e

-- ---- sums, differences, negation, conversion

converted : (to from : Ty) (a : ℕ) → a < 2 ^ 64 → wrap_number to (pos a) ≡ wrap_number to (number_of from a)
converted to from a h = sym (wraps_by_pattern to (pos a)) ∙ ap (wrap_number to) (unsigned_pattern a h ∙ sym (number_pattern from a h)) ∙ wraps_by_pattern to (number_of from a)

sum_of_patterns : (t u : Ty) (a b : ℕ) → a < 2 ^ 64 → b < 2 ^ 64 → wrap_number t (pos ((a + b) % 2 ^ 64)) ≡ wrap_number t (number_of t a +ℤ number_of u b)
sum_of_patterns t u a b ha hb =
    sym (wraps_by_pattern t (pos ((a + b) % 2 ^ 64)))
    ∙ ap (wrap_number t) (unsigned_pattern ((a + b) % 2 ^ 64) (mod-lt (a + b) (lit< tt))
    ∙ wrapping_add-bits w64 a b ha hb
    ∙ ap₂ (λ x y. int_wrap w64 (x +ℤ y)) (sym (number_pattern t a ha)) (sym (number_pattern u b hb))
    ∙ int_wrap-add_left w64 (number_of t a) (int_wrap w64 (number_of u b)) ∙ int_wrap-add_right w64 (number_of t a) (number_of u b))
    ∙ wraps_by_pattern t (number_of t a +ℤ number_of u b)

difference_of_patterns : (t u v : Ty) (a b : ℕ) → a < 2 ^ 64 → b < 2 ^ 64 → wrap_number t (pos ((a + (2 ^ 64 - b)) % 2 ^ 64)) ≡ wrap_number t (number_of u a -ℤ number_of v b)
difference_of_patterns t u v a b ha hb =
    sym (wraps_by_pattern t (pos ((a + (2 ^ 64 - b)) % 2 ^ 64)))
    ∙ ap (wrap_number t) (unsigned_pattern ((a + (2 ^ 64 - b)) % 2 ^ 64) (mod-lt (a + (2 ^ 64 - b)) (lit< tt))
    ∙ wrapping_sub-bits w64 a b ha hb
    ∙ ap₂ (λ x y. int_wrap w64 (x -ℤ y)) (sym (number_pattern u a ha)) (sym (number_pattern v b hb))
    ∙ int_wrap-add_left w64 (number_of u a) (neg_ℤ (int_wrap w64 (number_of v b))) ∙ int_wrap-sub_right w64 (number_of u a) (number_of v b))
    ∙ wraps_by_pattern t (number_of u a -ℤ number_of v b)

zero_minus : (z : ℤ) → pos 0 -ℤ z ≡ neg_ℤ z
zero_minus z = omega (arith, ints)

-- ---- patterns as numbers

-- a pattern is below 2^63, or that of a number below 0
signed_cases : (P : Type 0) (a : ℕ) → a < 2 ^ 64 → (a < 2 ^ 63 → cast_signed w64 a ≡ pos a → P) → ((n : ℕ) → n < 2 ^ 63 → a ≡ 2 ^ 64 - suc n → cast_signed w64 a ≡ negsuc n → P) → P
signed_cases P a h low high = elim (cases_lt a (2 ^ 63)) [
  | inl l ↦ low l (to_z_pos w64 a l)
  | inr l ↦ high (2 ^ 64 - suc a) (omega arith) (omega arith) (upper w64 a h l)
]

pub word_number : (t : Ty) (a : ℕ) → a < 2 ^ 64 → word_of (number_of t a) ≡ a
word_number I8 a h = of_z-to_z w64 a h
word_number I16 a h = of_z-to_z w64 a h
word_number I32 a h = of_z-to_z w64 a h
word_number I64 a h = of_z-to_z w64 a h
word_number U8 a h = refl
word_number U16 a h = refl
word_number U32 a h = refl
word_number U64 a h = refl

-- ---- comparisons

same_numbers : (t : Ty) (a b : ℕ) → a < 2 ^ 64 → b < 2 ^ 64 → int_eq (number_of t a) (number_of t b) ≡ eqb a b
same_numbers t a b ha hb =
    same_from_decides (int_eq (number_of t a) (number_of t b)) (eqb a b) (Decides-int_eq (number_of t a) (number_of t b))
    (Decides-like (eqb a b) (λ (e : a ≡ b). ap (number_of t) e) (λ e. sym (word_number t a ha) ∙ ap word_of e ∙ word_number t b hb) (Decides-eqb a b))

-- moved by 2^63, patterns have the order of their numbers
moved_up : (a : ℕ) → a < 2 ^ 63 → wrap_add a (2 ^ 63) ≡ a + 2 ^ 63
moved_up a h = omega arith

moved_down : (n : ℕ) → n < 2 ^ 63 → wrap_add (2 ^ 64 - suc n) (2 ^ 63) ≡ 2 ^ 63 - suc n
moved_down n h = omega arith

-- how two patterns compare, moved, is how their numbers do
abbrev Compare : (test : ℤ → ℤ → Bool) → (ℕ → ℕ → Bool) → ℕ → ℕ → Type 0
Compare test by a b = test (cast_signed w64 a) (cast_signed w64 b) ≡ by (wrap_add a (2 ^ 63)) (wrap_add b (2 ^ 63))

compared : (test : ℤ → ℤ → Bool) (by : ℕ → ℕ → Bool) →
    ((a b : ℕ) → a < 2 ^ 63 → b < 2 ^ 63 → test (pos a) (pos b) ≡ by (a + 2 ^ 63) (b + 2 ^ 63)) →
    ((a n : ℕ) → a < 2 ^ 63 → n < 2 ^ 63 → test (pos a) (negsuc n) ≡ by (a + 2 ^ 63) (2 ^ 63 - suc n)) →
    ((m b : ℕ) → m < 2 ^ 63 → b < 2 ^ 63 → test (negsuc m) (pos b) ≡ by (2 ^ 63 - suc m) (b + 2 ^ 63)) →
    ((m n : ℕ) → m < 2 ^ 63 → n < 2 ^ 63 → test (negsuc m) (negsuc n) ≡ by (2 ^ 63 - suc m) (2 ^ 63 - suc n)) →
    (a b : ℕ) → a < 2 ^ 64 → b < 2 ^ 64 → Compare test by a b
compared test by pp pn np nn a b ha hb = signed_cases (Compare test by a b) a ha
    (λ la ea. signed_cases (Compare test by a b) b hb
    (λ lb eb. ap₂ test ea eb ∙ pp a b la lb ∙ sym (ap₂ by (moved_up a la) (moved_up b lb)))
    (λ n ln wb eb. ap₂ test ea eb ∙ pn a n la ln ∙ sym (ap₂ by (moved_up a la) (ap (λ b. wrap_add b (2 ^ 63)) wb ∙ moved_down n ln))))
    (λ m lm wa ea. signed_cases (Compare test by a b) b hb
    (λ lb eb. ap₂ test ea eb ∙ np m b lm lb ∙ sym (ap₂ by (ap (λ a. wrap_add a (2 ^ 63)) wa ∙ moved_down m lm) (moved_up b lb)))
    (λ n ln wb eb. ap₂ test ea eb ∙ nn m n lm ln ∙ sym (ap₂ by (ap (λ a. wrap_add a (2 ^ 63)) wa ∙ moved_down m lm) (ap (λ b. wrap_add b (2 ^ 63)) wb ∙ moved_down n ln))))

ltb_same : (a b c d : ℕ) → (a < b → c < d) → (c < d → a < b) → ltb a b ≡ ltb c d
ltb_same a b c d f g = same_from_decides (ltb a b) (ltb c d) (Decides-ltb a b) (Decides-like (ltb c d) g f (Decides-ltb c d))

leb_same : (a b c d : ℕ) → (b < a → d < c) → (d < c → b < a) → leb a b ≡ leb c d
leb_same a b c d f g = elim (cases_lt b a) [
  | inl l ↦ let h : d < c = f l in let p : leb a b ≡ false = grind (arith, nat_tests) in let q : leb c d ≡ false = grind (arith, nat_tests) in p ∙ sym q
  | inr l ↦ elim (cases_lt d c) [
    | inl h ↦ absurd (let k : b < a = g h in omega arith)
    | inr h ↦ let p : leb a b ≡ true = grind (arith, nat_tests) in let q : leb c d ≡ true = grind (arith, nat_tests) in p ∙ sym q
  ]
]

less_signed : (a b : ℕ) → a < 2 ^ 64 → b < 2 ^ 64 → Compare int_lt ltb a b
less_signed = compared int_lt ltb
    (λ a b la lb. ltb_same a b (a + 2 ^ 63) (b + 2 ^ 63) (λ h. omega arith) (λ h. omega arith))
    (λ a n la ln. let f : ltb (a + 2 ^ 63) (2 ^ 63 - suc n) ≡ false = grind (arith, nat_tests) in sym f)
    (λ m b lm lb. let f : ltb (2 ^ 63 - suc m) (b + 2 ^ 63) ≡ true = grind (arith, nat_tests) in sym f)
    (λ m n lm ln. ltb_same n m (2 ^ 63 - suc m) (2 ^ 63 - suc n) (λ h. omega arith) (λ h. omega arith))

at_most_signed : (a b : ℕ) → a < 2 ^ 64 → b < 2 ^ 64 → Compare int_le leb a b
at_most_signed = compared int_le leb
    (λ a b la lb. leb_same a b (a + 2 ^ 63) (b + 2 ^ 63) (λ h. omega arith) (λ h. omega arith))
    (λ a n la ln. let f : leb (a + 2 ^ 63) (2 ^ 63 - suc n) ≡ false = grind (arith, nat_tests) in sym f)
    (λ m b lm lb. let f : leb (2 ^ 63 - suc m) (b + 2 ^ 63) ≡ true = grind (arith, nat_tests) in sym f)
    (λ m n lm ln. leb_same n m (2 ^ 63 - suc m) (2 ^ 63 - suc n) (λ h. omega arith) (λ h. omega arith))

unmoved : (a : ℕ) → a < 2 ^ 64 → a ≡ wrap_add a 0
unmoved a h = omega arith

less : (t : Ty) (a b : ℕ) → a < 2 ^ 64 → b < 2 ^ 64 → int_lt (number_of t a) (number_of t b) ≡ ltb (biased t a) (biased t b)
less I8 a b ha hb = less_signed a b ha hb
less I16 a b ha hb = less_signed a b ha hb
less I32 a b ha hb = less_signed a b ha hb
less I64 a b ha hb = less_signed a b ha hb
less U8 a b ha hb = ap₂ ltb (unmoved a ha) (unmoved b hb)
less U16 a b ha hb = ap₂ ltb (unmoved a ha) (unmoved b hb)
less U32 a b ha hb = ap₂ ltb (unmoved a ha) (unmoved b hb)
less U64 a b ha hb = ap₂ ltb (unmoved a ha) (unmoved b hb)

at_most : (t : Ty) (a b : ℕ) → a < 2 ^ 64 → b < 2 ^ 64 → int_le (number_of t a) (number_of t b) ≡ leb (biased t a) (biased t b)
at_most I8 a b ha hb = at_most_signed a b ha hb
at_most I16 a b ha hb = at_most_signed a b ha hb
at_most I32 a b ha hb = at_most_signed a b ha hb
at_most I64 a b ha hb = at_most_signed a b ha hb
at_most U8 a b ha hb = ap₂ leb (unmoved a ha) (unmoved b hb)
at_most U16 a b ha hb = ap₂ leb (unmoved a ha) (unmoved b hb)
at_most U32 a b ha hb = ap₂ leb (unmoved a ha) (unmoved b hb)
at_most U64 a b ha hb = ap₂ leb (unmoved a ha) (unmoved b hb)

truth_word : (b : Bool) → word_of (wrap_number I32 (truth b)) ≡ cond b 1 0
unfolding int_wrap
truth_word true = refl
truth_word false = refl

-- ---- shifts

rem_8 : (y : ℕ) → y < 2 ^ 64 → unsigned_abs (int_rem_euclid (cast_signed w64 y) (pos 8)) ≡ y % 8
rem_8 y h = signed_cases (unsigned_abs (int_rem_euclid (cast_signed w64 y) (pos 8)) ≡ y % 8) y h
    (λ l e. ap (λ z. unsigned_abs (int_rem_euclid z (pos 8))) e)
    (λ n l w e. ap (λ z. unsigned_abs (int_rem_euclid z (pos 8))) e ∙ (let q : 8 - 1 - n % 8 ≡ (2 ^ 64 - suc n) % 8 = omega arith in q) ∙ ap (λ y. y % 8) (sym w))

rem_16 : (y : ℕ) → y < 2 ^ 64 → unsigned_abs (int_rem_euclid (cast_signed w64 y) (pos 16)) ≡ y % 16
rem_16 y h = signed_cases (unsigned_abs (int_rem_euclid (cast_signed w64 y) (pos 16)) ≡ y % 16) y h
    (λ l e. ap (λ z. unsigned_abs (int_rem_euclid z (pos 16))) e)
    (λ n l w e. ap (λ z. unsigned_abs (int_rem_euclid z (pos 16))) e ∙ (let q : 16 - 1 - n % 16 ≡ (2 ^ 64 - suc n) % 16 = omega arith in q) ∙ ap (λ y. y % 16) (sym w))

rem_32 : (y : ℕ) → y < 2 ^ 64 → unsigned_abs (int_rem_euclid (cast_signed w64 y) (pos 32)) ≡ y % 32
rem_32 y h = signed_cases (unsigned_abs (int_rem_euclid (cast_signed w64 y) (pos 32)) ≡ y % 32) y h
    (λ l e. ap (λ z. unsigned_abs (int_rem_euclid z (pos 32))) e)
    (λ n l w e. ap (λ z. unsigned_abs (int_rem_euclid z (pos 32))) e ∙ (let q : 32 - 1 - n % 32 ≡ (2 ^ 64 - suc n) % 32 = omega arith in q) ∙ ap (λ y. y % 32) (sym w))

rem_64 : (y : ℕ) → y < 2 ^ 64 → unsigned_abs (int_rem_euclid (cast_signed w64 y) (pos 64)) ≡ y % 64
rem_64 y h = signed_cases (unsigned_abs (int_rem_euclid (cast_signed w64 y) (pos 64)) ≡ y % 64) y h
    (λ l e. ap (λ z. unsigned_abs (int_rem_euclid z (pos 64))) e)
    (λ n l w e. ap (λ z. unsigned_abs (int_rem_euclid z (pos 64))) e ∙ (let q : 64 - 1 - n % 64 ≡ (2 ^ 64 - suc n) % 64 = omega arith in q) ∙ ap (λ y. y % 64) (sym w))

number_rem : (t : Ty) (y k : ℕ) → unsigned_abs (int_rem_euclid (cast_signed w64 y) (pos k)) ≡ y % k → unsigned_abs (int_rem_euclid (number_of t y) (pos k)) ≡ y % k
number_rem I8 y k h = h
number_rem I16 y k h = h
number_rem I32 y k h = h
number_rem I64 y k h = h
number_rem U8 y k h = refl
number_rem U16 y k h = refl
number_rem U32 y k h = refl
number_rem U64 y k h = refl

-- how far the code shifts
count_is : (t u : Ty) (y : ℕ) → y < 2 ^ 64 → count_of t y ≡ shift_count t (number_of u y)
count_is I8 u y h = and_mask y 3 ∙ sym (number_rem u y 8 (rem_8 y h))
count_is I16 u y h = and_mask y 4 ∙ sym (number_rem u y 16 (rem_16 y h))
count_is I32 u y h = and_mask y 5 ∙ sym (number_rem u y 32 (rem_32 y h))
count_is I64 u y h = and_mask y 6 ∙ sym (number_rem u y 64 (rem_64 y h))
count_is U8 u y h = and_mask y 3 ∙ sym (number_rem u y 8 (rem_8 y h))
count_is U16 u y h = and_mask y 4 ∙ sym (number_rem u y 16 (rem_16 y h))
count_is U32 u y h = and_mask y 5 ∙ sym (number_rem u y 32 (rem_32 y h))
count_is U64 u y h = and_mask y 6 ∙ sym (number_rem u y 64 (rem_64 y h))

count-lt_width : (t : Ty) (y : ℕ) → count_of t y < width_of t
count-lt_width I8 y = omega (arith, and_le_r y 7)
count-lt_width I16 y = omega (arith, and_le_r y 15)
count-lt_width I32 y = omega (arith, and_le_r y 31)
count-lt_width I64 y = omega (arith, and_le_r y 63)
count-lt_width U8 y = omega (arith, and_le_r y 7)
count-lt_width U16 y = omega (arith, and_le_r y 15)
count-lt_width U32 y = omega (arith, and_le_r y 31)
count-lt_width U64 y = omega (arith, and_le_r y 63)

-- a quotient of a difference from a multiple
below_multiple : (n d e : ℕ) → 0 < d → n < e * d → (e * d - suc n) / d ≡ e - suc (n / d)
below_multiple n d e h l =
    let q : n / d < e = div_below n d e h l in
    let r : n % d < d = mod-lt n h in
    let parts : d * (n / d) + n % d ≡ n = div-add-mod n d in
    let split : e * d ≡ (e - suc (n / d)) * d + d * (n / d) + d = products (e - suc (n / d)) (n / d) e d (omega arith) in
    let whole : e * d - suc n ≡ (e - suc (n / d)) * d + (d - suc (n % d)) = apart (e * d) ((e - suc (n / d)) * d) (d * (n / d)) d (n % d) n split parts r in
    ap (λ x. x / d) whole ∙ div-mul-add (e - suc (n / d)) d (d - suc (n % d)) (omega arith)
  where
    multiplied : (x q d : ℕ) → (x + suc q) * d ≡ x * d + d * q + d
    multiplied x q d = grind arith

    products : (x q e d : ℕ) → x + suc q ≡ e → e * d ≡ x * d + d * q + d
    products x q e d h = ap (λ e. e * d) (sym h) ∙ multiplied x q d

    apart : (ed xd dq d r n : ℕ) → ed ≡ xd + dq + d → dq + r ≡ n → r < d → ed - suc n ≡ xd + (d - suc r)
    apart ed xd dq d r n a b c = omega arith

half_power : (k : ℕ) → k < 64 → 2 ^ (63 - k) * 2 ^ k ≡ 2 ^ 63
half_power k h = sym (pow-add 2 (63 - k) k) ∙ ap (λ n. 2 ^ n) (let e : 63 - k + k ≡ 63 = omega arith in e)

-- a word moved up by 2^63, shifted, and moved down by as much, is its number shifted
abbrev Shifted : ℕ → ℕ → Type 0
Shifted x d = wrap_sub (wrap_add x (2 ^ 63) / d) (2 ^ 63 / d) ≡ word_of (int_div_euclid (cast_signed w64 x) (pos d))

shifted_up : (a d e : ℕ) → 0 < d → e * d ≡ 2 ^ 63 → a < 2 ^ 63 → wrap_sub ((a + 2 ^ 63) / d) (2 ^ 63 / d) ≡ a / d
shifted_up a d e h p l =
    let whole : 2 ^ 63 / d ≡ e = ap (λ n. n / d) (sym p) ∙ (let z : e * d + 0 ≡ e * d = omega arith in ap (λ n. n / d) (sym z)) ∙ div-mul-add e d 0 h in
    let moved : (a + 2 ^ 63) / d ≡ a / d + e = ap (λ n. (a + n) / d) (sym p) ∙ add-mul-div_right a e h in
    let small : a / d ≤ a = div-le_self a d in
    let few : e ≤ 2 ^ 63 = omega (arith, div-le_self (2 ^ 63) d) in
    ap₂ wrap_sub moved whole ∙ (let r : wrap_sub (a / d + e) e ≡ a / d = omega arith in r)

shifted_down : (n d e : ℕ) → 0 < d → e * d ≡ 2 ^ 63 → n < 2 ^ 63 → wrap_sub ((2 ^ 63 - suc n) / d) (2 ^ 63 / d) ≡ 2 ^ 64 - suc (n / d)
shifted_down n d e h p l =
    let whole : 2 ^ 63 / d ≡ e = ap (λ n. n / d) (sym p) ∙ (let z : e * d + 0 ≡ e * d = omega arith in ap (λ n. n / d) (sym z)) ∙ div-mul-add e d 0 h in
    let inside : n < e * d = omega arith in
    let moved : (2 ^ 63 - suc n) / d ≡ e - suc (n / d) = ap (λ m. (m - suc n) / d) (sym p) ∙ below_multiple n d e h inside in
    let under : n / d < e = div_below n d e h inside in
    let few : e ≤ 2 ^ 63 = omega (arith, div-le_self (2 ^ 63) d) in
    ap₂ wrap_sub moved whole ∙ (let r : wrap_sub (e - suc (n / d)) e ≡ 2 ^ 64 - suc (n / d) = omega arith in r)

shifted_signed : (x k : ℕ) → x < 2 ^ 64 → k < 64 → Shifted x (2 ^ k)
shifted_signed x k h l = signed_cases (Shifted x (2 ^ k)) x h
    (λ low e. ap (λ a. wrap_sub (a / 2 ^ k) (2 ^ 63 / 2 ^ k)) (moved_up x low) ∙ shifted_up x (2 ^ k) (2 ^ (63 - k)) (pow_pos k) (half_power k l) low ∙ ap (λ z. word_of (int_div_euclid z (pos (2 ^ k)))) (sym e))
    (λ n low w e. ap (λ a. wrap_sub (a / 2 ^ k) (2 ^ 63 / 2 ^ k)) (ap (λ x. wrap_add x (2 ^ 63)) w ∙ moved_down n low) ∙ shifted_down n (2 ^ k) (2 ^ (63 - k)) (pow_pos k) (half_power k l) low
    ∙ ap (λ z. word_of (int_div_euclid z (pos (2 ^ k)))) (sym e))

shifted_unsigned : (x k : ℕ) → x < 2 ^ 64 → wrap_sub (wrap_add x 0 / 2 ^ k) (0 / 2 ^ k) ≡ x / 2 ^ k
shifted_unsigned x k h =
    let small : x / 2 ^ k ≤ x = div-le_self x (2 ^ k) in
    ap₂ (λ a b. wrap_sub (a / 2 ^ k) b) (sym (unmoved x h)) (zero-div (2 ^ k)) ∙ (let r : wrap_sub (x / 2 ^ k) 0 ≡ x / 2 ^ k = omega arith in r)

-- a quotient by a natural number stays in the range
quotient_fits : (w : Width) (z : ℤ) (d : ℕ) → FitsSigned w z → FitsSigned w (int_div_euclid z (pos d))
quotient_fits w (pos a) d h = record { sfits = omega (arith, div-le_self a d) }
quotient_fits w (negsuc n) d h = record { sfits = omega (arith, div-le_self n d) }

quotient_stays : (w : ℕ) (a d : ℕ) → (pos a) <ℤ pos w → a / d % w ≡ a / d
quotient_stays w a d h = mod-eq_of_lt (let l : a < w = omega (arith, ints) in omega (arith, div-le_self a d))

shifted_word : (t : Ty) (x k : ℕ) → IsCanonical t x → k < 64 → wrap_sub (biased t x / 2 ^ k) (bias_of t / 2 ^ k) ≡ word_of (wrap_number t (int_div_euclid (number_of t x) (pos (2 ^ k))))
shifted_word I8 x k h l = shifted_signed x k h.0 l ∙ ap word_of (sym (int_wrap_fits w8 _ (quotient_fits w8 (cast_signed w64 x) (2 ^ k) h.1)))
shifted_word I16 x k h l = shifted_signed x k h.0 l ∙ ap word_of (sym (int_wrap_fits w16 _ (quotient_fits w16 (cast_signed w64 x) (2 ^ k) h.1)))
shifted_word I32 x k h l = shifted_signed x k h.0 l ∙ ap word_of (sym (int_wrap_fits w32 _ (quotient_fits w32 (cast_signed w64 x) (2 ^ k) h.1)))
shifted_word I64 x k h l = shifted_signed x k h.0 l ∙ ap word_of (sym (int_wrap_fits w64 _ (quotient_fits w64 (cast_signed w64 x) (2 ^ k) h.1)))
shifted_word U8 x k h l = shifted_unsigned x k h.0 ∙ sym (quotient_stays (2 ^ 8) x (2 ^ k) h.1.1)
shifted_word U16 x k h l = shifted_unsigned x k h.0 ∙ sym (quotient_stays (2 ^ 16) x (2 ^ k) h.1.1)
shifted_word U32 x k h l = shifted_unsigned x k h.0 ∙ sym (quotient_stays (2 ^ 32) x (2 ^ k) h.1.1)
shifted_word U64 x k h l = shifted_unsigned x k h.0 ∙ sym (quotient_stays (2 ^ 64) x (2 ^ k) h.1.1)

-- ---- the operators

pub computes1 : (op : Op1) (t : Ty) (x y : ℕ) → x < 2 ^ 64 → pattern (lanewise1_of op) t x y ≡ op1_word op t x
computes1 Neg t x y h = extended_is t (wrap_sub 0 x) (neg_ℤ (number_of t x))
    (difference_of_patterns t U64 t 0 x (lit< tt) h ∙ ap (wrap_number t) (zero_minus (number_of t x)))
computes1 Not t x y h = extended_is t (bit_not w64 x) (exact_unary Not t (number_of t x)) (not_of_pattern t x h)

pub computes_conversion : (from to : Ty) (x y : ℕ) → x < 2 ^ 64 → pattern Extend to x y ≡ convert_word from to x
computes_conversion from to x y h = extended_is to x (number_of from x) (converted to from x h)

compared_word : (b c : Bool) → c ≡ b → cond b 1 0 ≡ word_of (wrap_number I32 (truth c))
compared_word b c e = sym (truth_word b) ∙ ap (λ c. word_of (wrap_number I32 (truth c))) (sym e)

equal : (t bt : Ty) (x y : ℕ) → x < 2 ^ 64 → y < 2 ^ 64 → bt ≡ t → int_eq (number_of t x) (number_of bt y) ≡ eqb x y
equal t bt x y h k e = ap (λ u. int_eq (number_of t x) (number_of u y)) e ∙ same_numbers t x y h k

-- one operator at a time: the pattern that the code computes is that of the operator's value
pub computes2 : (op : Op2) (t bt : Ty) (x y old : ℕ) → IsCanonical t x → IsCanonical bt y → AreOperands op t bt → IfSome (lanewise_of op) (λ l. pattern l t x y ≡ op2_word op t bt x y old)
computes2 Add t bt x y old h k e = extended_is t (wrap_add x y) (number_of t x +ℤ number_of bt y) (sum_of_patterns t bt x y h.0 k.0)
computes2 Sub t bt x y old h k e = extended_is t (wrap_sub x y) (number_of t x -ℤ number_of bt y) (difference_of_patterns t t bt x y h.0 k.0)
computes2 Mul t bt x y old h k e = extended_is t (x * y % 2 ^ 64) (number_of t x *ℤ number_of bt y) (product_of_patterns t bt x y h.0 k.0)
computes2 Div t bt x y old h k e = tt
computes2 Rem t bt x y old h k e = tt
computes2 And t bt x y old h k e = extended_is t (bit_and x y) (pos (from_bits (width_of t) (λ n. min (bit_of (number_of t x) n) (bit_of (number_of bt y) n)))) (and_of_patterns t bt x y h.0 k.0)
computes2 Or t bt x y old h k e = extended_is t (bit_or x y) (pos (from_bits (width_of t) (λ n. max (bit_of (number_of t x) n) (bit_of (number_of bt y) n)))) (or_of_patterns t bt x y h.0 k.0)
computes2 Xor t bt x y old h k e = extended_is t (bit_xor x y) (pos (from_bits (width_of t) (λ n. (bit_of (number_of t x) n + bit_of (number_of bt y) n) % 2))) (xor_of_patterns t bt x y h.0 k.0)
computes2 Shl t bt x y old h k e =
    extended_is t (x * 2 ^ count_of t y % 2 ^ 64) (number_of t x *ℤ pos (2 ^ shift_count t (number_of bt y)))
    (shifted_pattern t x (count_of t y) h.0 (count-lt_width t y) ∙ ap (λ n. wrap_number t (number_of t x *ℤ pos (2 ^ n))) (count_is t bt y k.0))
computes2 Shr t bt x y old h k e =
    shifted_word t x (count_of t y) h (count-lt t y) ∙ ap (λ n. word_of (wrap_number t (int_div_euclid (number_of t x) (pos (2 ^ n))))) (count_is t bt y k.0)
computes2 Eq t bt x y old h k e = compared_word (eqb x y) (int_eq (number_of t x) (number_of bt y)) (equal t bt x y h.0 k.0 e)
computes2 Ne t bt x y old h k e = compared_word (not (eqb x y)) (not (int_eq (number_of t x) (number_of bt y))) (ap not (equal t bt x y h.0 k.0 e))
computes2 Lt t bt x y old h k e = compared_word (ltb (biased t x) (biased t y)) (int_lt (number_of t x) (number_of bt y)) (ap (λ u. int_lt (number_of t x) (number_of u y)) e ∙ less t x y h.0 k.0)
computes2 Le t bt x y old h k e = compared_word (leb (biased t x) (biased t y)) (int_le (number_of t x) (number_of bt y)) (ap (λ u. int_le (number_of t x) (number_of u y)) e ∙ at_most t x y h.0 k.0)
