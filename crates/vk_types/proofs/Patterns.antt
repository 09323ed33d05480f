-- For whoever computes on 64-bit patterns: what is computed there (sums and products modulo 2^64, shifts, bitwise operators) wraps
-- to the number that the definitions of operators give.
use Rattle.std.proofs.Common.{◌≡◌, ℕ, zero, suc, ◌+◌, ◌-◌, ◌*◌, ◌/◌, ◌%◌, ◌^◌, ◌<◌, ◌≤◌, min, max, bit_and, bit_or, bit_xor, ℤ, pos, ◌*ℤ◌, w8, w16, w32, w64, ap, ap₂, sym, ◌∙◌, inl, inr, refl, arith, lit<, lit≤}
use Rattle.std.proofs.Math.Nat.{add_comm, mod-eq_of_lt, mod-add-div, mod-lt, mod-mod, two-pow-succ, pow-succ'}
use Rattle.std.proofs.Math.Pow.{pow_pos, pow-lt}
use Rattle.std.proofs.Math.Arith.{mod-mul}
use Rattle.std.specs.Int.{Width, bit_at, bit_not, cast_signed, int_div_euclid, int_wrap}
use Rattle.std.proofs.lemmas.Int.{SFits-int_wrap, int_wrap-mul_left, int_wrap-mul_right, int_wrap_fits, to_z_pos, wrapping_mul-bits}
use Rattle.std.proofs.lemmas.Nat.Bits.{bit_at-lt, bit_at_and, bit_at_cat_high, bit_at_cat_low, bit_at_lowest, bit_at_not, bit_at_or, bit_at_xor}
use Rattle.std.proofs.lemmas.Bool.{cases_lt}
use Rattle.vk_types.specs.declared.types.Ty.{Ty}
use Rattle.vk_types.specs.declared.types.Ty.TheVariants.{I8, I16, I32, I64, U8, U16, U32, U64}
use Rattle.vk_types.specs.Numbers.{number_of, width_of, wrap_number}
use Rattle.vk_types.specs.Operators.{bit_of, from_bits}
use Rattle.vk_types.proofs.Wrapping.{positive, rem_below, rem_twice, upper, wrap_by_rem, wrap_twice}
use mir.Val.{bits, hbits}

-- ---- patterns

-- the 64-bit pattern decides what a number wraps to
pub wraps_by_pattern : (t : Ty) (z : ℤ) → wrap_number t (int_wrap w64 z) ≡ wrap_number t z
unfolding int_wrap
wraps_by_pattern I8 z = wrap_twice w8 refl z
wraps_by_pattern I16 z = wrap_twice w16 refl z
wraps_by_pattern I32 z = wrap_twice w32 refl z
wraps_by_pattern I64 z = wrap_twice w64 refl z
wraps_by_pattern U8 z = rem_twice w8 refl z
wraps_by_pattern U16 z = rem_twice w16 refl z
wraps_by_pattern U32 z = rem_twice w32 refl z
wraps_by_pattern U64 z = rem_twice w64 refl z

-- the pattern of a number read as unsigned
pub unsigned_pattern : (w : ℕ) → w < 2 ^ 64 → int_wrap w64 (pos w) ≡ cast_signed w64 w
unsigned_pattern w h = wrap_by_rem w64 (pos w) w (ap pos (mod-eq_of_lt h))

-- and as signed
signed_pattern : (w : ℕ) → w < 2 ^ 64 → int_wrap w64 (cast_signed w64 w) ≡ cast_signed w64 w
signed_pattern w h = ap (int_wrap w64) (sym (unsigned_pattern w h)) ∙ int_wrap_fits w64 (int_wrap w64 (pos w)) (SFits-int_wrap w64 (pos w)) ∙ unsigned_pattern w h

pub pattern : (t : Ty) (w : ℕ) → w < 2 ^ 64 → int_wrap w64 (number_of t w) ≡ cast_signed w64 w
pattern I8 w h = signed_pattern w h
pattern I16 w h = signed_pattern w h
pattern I32 w h = signed_pattern w h
pattern I64 w h = signed_pattern w h
pattern U8 w h = unsigned_pattern w h
pattern U16 w h = unsigned_pattern w h
pattern U32 w h = unsigned_pattern w h
pattern U64 w h = unsigned_pattern w h

-- the product of two patterns is the pattern of the product
pub product : (t : Ty) (a b : ℕ) (x y : ℤ) → a < 2 ^ 64 → b < 2 ^ 64 → int_wrap w64 x ≡ cast_signed w64 a → int_wrap w64 y ≡ cast_signed w64 b →
    wrap_number t (pos ((a * b) % 2 ^ 64)) ≡ wrap_number t (x *ℤ y)
product t a b x y ha hb ex ey =
    sym (wraps_by_pattern t (pos ((a * b) % 2 ^ 64)))
    ∙ ap (wrap_number t) (unsigned_pattern ((a * b) % 2 ^ 64) (mod-lt (a * b) (lit< tt))
    ∙ wrapping_mul-bits w64 a b ha hb
    ∙ ap₂ (λ u v. int_wrap w64 (u *ℤ v)) (sym ex) (sym ey)
    ∙ int_wrap-mul_left w64 x (int_wrap w64 y) ∙ int_wrap-mul_right w64 x y)
    ∙ wraps_by_pattern t (x *ℤ y)

-- ---- bits

-- the lowest bits decide what a natural number wraps to
signed_by_low : (w : Width) (a : ℕ) → int_wrap w (pos a) ≡ int_wrap w (pos (a % 2 ^ bits w))
signed_by_low w a = wrap_by_rem w (pos a) (a % 2 ^ bits w) refl ∙ sym (wrap_by_rem w (pos (a % 2 ^ bits w)) (a % 2 ^ bits w) (ap pos (mod-mod a (2 ^ bits w))))

pub wraps_by_low : (t : Ty) (a : ℕ) → wrap_number t (pos a) ≡ wrap_number t (pos (a % 2 ^ width_of t))
wraps_by_low I8 a = signed_by_low w8 a
wraps_by_low I16 a = signed_by_low w16 a
wraps_by_low I32 a = signed_by_low w32 a
wraps_by_low I64 a = signed_by_low w64 a
wraps_by_low U8 a = ap pos (sym (mod-mod a (2 ^ 8)))
wraps_by_low U16 a = ap pos (sym (mod-mod a (2 ^ 16)))
wraps_by_low U32 a = ap pos (sym (mod-mod a (2 ^ 32)))
wraps_by_low U64 a = ap pos (sym (mod-mod a (2 ^ 64)))

-- one more bit
low_bits-suc : (n a : ℕ) → a % 2 ^ suc n ≡ a % 2 ^ n + bit_at a n * 2 ^ n
low_bits-suc n a = ap (λ m. a % m) (pow-succ' 2 n) ∙ mod-mul a {m = 2} {c = 2 ^ n} (lit< tt) (pow_pos n) ∙ add_comm (bit_at a n * 2 ^ n) (a % 2 ^ n)

pub low_bits : (n a : ℕ) (f : ℕ → ℕ) → ((k : ℕ) → k < n → bit_at a k ≡ f k) → a % 2 ^ n ≡ from_bits n f
unfolding from_bits
low_bits zero a f same = omega arith
low_bits (suc n) a f same =
    low_bits-suc n a ∙ ap₂ (λ r b. r + b * 2 ^ n) (low_bits n a f (λ k h. same k (omega arith))) (same n (omega arith))

narrow : (t : Ty) → width_of t ≤ 64
narrow I8 = lit≤ tt
narrow I16 = lit≤ tt
narrow I32 = lit≤ tt
narrow I64 = lit≤ tt
narrow U8 = lit≤ tt
narrow U16 = lit≤ tt
narrow U32 = lit≤ tt
narrow U64 = lit≤ tt

-- a pattern whose bits are these
pub by_bits : (t : Ty) (a : ℕ) (f : ℕ → ℕ) → ((k : ℕ) → k < 64 → bit_at a k ≡ f k) → wrap_number t (pos a) ≡ wrap_number t (pos (from_bits (width_of t) f))
by_bits t a f same =
    wraps_by_low t a ∙ ap (λ n. wrap_number t (pos n)) (low_bits (width_of t) a f (λ k h. same k (omega (arith, narrow t))))

-- the bits of a number are those of its pattern
complement : (b : ℕ) → b < 2 → 1 - (1 - b) ≡ b
complement b h = omega arith

flipped : (w n : ℕ) → n - suc w ≡ n - 1 - w
flipped w n = omega arith

signed_bit : (w : Width) (n k : ℕ) → n < 2 ^ bits w → k < bits w → bit_of (cast_signed w n) k ≡ bit_at n k
signed_bit w n k below inside = elim (cases_lt n (2 ^ hbits w)) [
  | inl low ↦ ap (λ z. bit_of z k) (to_z_pos w n low)
  | inr high ↦ ap (λ z. bit_of z k) (upper w n below high)
      ∙ ap (λ m. 1 - bit_at m k) (flipped n (2 ^ bits w))
      ∙ ap (λ b. 1 - b) (bit_at_not w n k below inside)
      ∙ complement (bit_at n k) (bit_at-lt n k)
]

pub bit_of_number : (t : Ty) (w k : ℕ) → w < 2 ^ 64 → k < 64 → bit_of (number_of t w) k ≡ bit_at w k
bit_of_number I8 w k h i = signed_bit w64 w k h i
bit_of_number I16 w k h i = signed_bit w64 w k h i
bit_of_number I32 w k h i = signed_bit w64 w k h i
bit_of_number I64 w k h i = signed_bit w64 w k h i
bit_of_number U8 w k h i = refl
bit_of_number U16 w k h i = refl
bit_of_number U32 w k h i = refl
bit_of_number U64 w k h i = refl

swapped : (r n q : ℕ) → r + n * q ≡ q * n + r
swapped r n q = grind arith

-- the bits of what a number wraps to
low_bit : (m n k : ℕ) → k < m → bit_at (n % 2 ^ m) k ≡ bit_at n k
low_bit m n k h = sym (ap (λ x. bit_at x k) (sym (mod-add-div n (2 ^ m)) ∙ swapped (n % 2 ^ m) (2 ^ m) (n / 2 ^ m)) ∙ bit_at_cat_low (n / 2 ^ m) m (n % 2 ^ m) k h)

signed_wrap_bit : (w : Width) (n k : ℕ) → k < bits w → bit_of (int_wrap w (pos n)) k ≡ bit_at n k
signed_wrap_bit w n k h =
    ap (λ z. bit_of z k) (wrap_by_rem w (pos n) (n % 2 ^ bits w) refl) ∙ signed_bit w (n % 2 ^ bits w) k (mod-lt n (positive w)) h ∙ low_bit (bits w) n k h

pub wrap_bit : (t : Ty) (n k : ℕ) → k < width_of t → bit_of (wrap_number t (pos n)) k ≡ bit_at n k
wrap_bit I8 n k h = signed_wrap_bit w8 n k h
wrap_bit I16 n k h = signed_wrap_bit w16 n k h
wrap_bit I32 n k h = signed_wrap_bit w32 n k h
wrap_bit I64 n k h = signed_wrap_bit w64 n k h
wrap_bit U8 n k h = low_bit 8 n k h
wrap_bit U16 n k h = low_bit 16 n k h
wrap_bit U32 n k h = low_bit 32 n k h
wrap_bit U64 n k h = low_bit 64 n k h

-- the bits of a number that is made of bits
one_more : (a b p : ℕ) → a < p → b < 2 → a + b * p < p + p
one_more a b p h i = elim (cases_lt b 1) [
  | inl none ↦ let e : b ≡ 0 = omega arith in rw e (omega arith)
  | inr some ↦ let e : b ≡ 1 = omega arith in rw e (omega arith)
]

pub from_bits_below : (n : ℕ) (f : ℕ → ℕ) → ((i : ℕ) → f i < 2) → from_bits n f < 2 ^ n
unfolding from_bits
from_bits_below zero f h = lit< tt
from_bits_below (suc n) f h = rw (two-pow-succ n) (one_more (from_bits n f) (f n) (2 ^ n) (from_bits_below n f h) (h n))

pub bit_at-from_bits : (n : ℕ) (f : ℕ → ℕ) → ((i : ℕ) → f i < 2) → (k : ℕ) → k < n → bit_at (from_bits n f) k ≡ f k
unfolding from_bits
bit_at-from_bits zero f h k i = absurd (omega arith)
bit_at-from_bits (suc n) f h k i = ap (λ x. bit_at x k) (add_comm (from_bits n f) (f n * 2 ^ n)) ∙ elim (cases_lt k n) [
  | inl low ↦ bit_at_cat_low (f n) n (from_bits n f) k low ∙ bit_at-from_bits n f h k low
  | inr high ↦ bit_at_cat_high (f n) n (from_bits n f) k (from_bits_below n f h) high
      ∙ ap (bit_at (f n)) (let none : k - n ≡ 0 = omega arith in none) ∙ bit_at_lowest (f n) ∙ mod-eq_of_lt (h n) ∙ ap f (let same : n ≡ k = omega arith in same)
]

pub bit_of-lt : (z : ℤ) (k : ℕ) → bit_of z k < 2
bit_of-lt z k = rem_below (int_div_euclid z (pos (2 ^ k))) 2 (lit< tt)

pub bit_of_made : (t : Ty) (f : ℕ → ℕ) → ((i : ℕ) → f i < 2) → (k : ℕ) → k < width_of t → bit_of (wrap_number t (pos (from_bits (width_of t) f))) k ≡ f k
bit_of_made t f h k i = wrap_bit t (from_bits (width_of t) f) k i ∙ bit_at-from_bits (width_of t) f h k i

-- ---- the operators that the code applies to patterns

pub product_of_patterns : (t u : Ty) (a b : ℕ) → a < 2 ^ 64 → b < 2 ^ 64 → wrap_number t (pos ((a * b) % 2 ^ 64)) ≡ wrap_number t (number_of t a *ℤ number_of u b)
product_of_patterns t u a b ha hb = product t a b (number_of t a) (number_of u b) ha hb (pattern t a ha) (pattern u b hb)

pub shifted_pattern : (t : Ty) (a n : ℕ) → a < 2 ^ 64 → n < width_of t → wrap_number t (pos ((a * 2 ^ n) % 2 ^ 64)) ≡ wrap_number t (number_of t a *ℤ pos (2 ^ n))
shifted_pattern t a n ha hn =
    let inside : n < 64 = omega (arith, narrow t) in
    let small : 2 ^ n < 2 ^ 64 = pow-lt inside in
    product t a (2 ^ n) (number_of t a) (pos (2 ^ n)) ha small (pattern t a ha) (unsigned_pattern (2 ^ n) small)

pub and_of_patterns : (t u : Ty) (a b : ℕ) → a < 2 ^ 64 → b < 2 ^ 64 →
    wrap_number t (pos (bit_and a b)) ≡ wrap_number t (pos (from_bits (width_of t) (λ k. min (bit_of (number_of t a) k) (bit_of (number_of u b) k))))
and_of_patterns t u a b ha hb = by_bits t (bit_and a b) (λ k. min (bit_of (number_of t a) k) (bit_of (number_of u b) k))
    (λ k h. bit_at_and a b k ∙ ap₂ min (sym (bit_of_number t a k ha h)) (sym (bit_of_number u b k hb h)))

pub or_of_patterns : (t u : Ty) (a b : ℕ) → a < 2 ^ 64 → b < 2 ^ 64 →
    wrap_number t (pos (bit_or a b)) ≡ wrap_number t (pos (from_bits (width_of t) (λ k. max (bit_of (number_of t a) k) (bit_of (number_of u b) k))))
or_of_patterns t u a b ha hb = by_bits t (bit_or a b) (λ k. max (bit_of (number_of t a) k) (bit_of (number_of u b) k))
    (λ k h. bit_at_or a b k ∙ ap₂ max (sym (bit_of_number t a k ha h)) (sym (bit_of_number u b k hb h)))

pub xor_of_patterns : (t u : Ty) (a b : ℕ) → a < 2 ^ 64 → b < 2 ^ 64 →
    wrap_number t (pos (bit_xor a b)) ≡ wrap_number t (pos (from_bits (width_of t) (λ k. (bit_of (number_of t a) k + bit_of (number_of u b) k) % 2)))
xor_of_patterns t u a b ha hb = by_bits t (bit_xor a b) (λ k. (bit_of (number_of t a) k + bit_of (number_of u b) k) % 2)
    (λ k h. bit_at_xor a b k ∙ ap₂ (λ x y. (x + y) % 2) (sym (bit_of_number t a k ha h)) (sym (bit_of_number u b k hb h)))

pub not_of_pattern : (t : Ty) (a : ℕ) → a < 2 ^ 64 →
    wrap_number t (pos (bit_not w64 a)) ≡ wrap_number t (pos (from_bits (width_of t) (λ k. 1 - bit_of (number_of t a) k)))
not_of_pattern t a ha = by_bits t (bit_not w64 a) (λ k. 1 - bit_of (number_of t a) k)
    (λ k h. bit_at_not w64 a k ha h ∙ ap (λ b. 1 - b) (sym (bit_of_number t a k ha h)))
