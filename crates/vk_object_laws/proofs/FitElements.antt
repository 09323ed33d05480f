-- Elements that are canonical for their type fit.
use Rattle.std.proofs.Common.{◌≡◌, ℕ, suc, ◌+◌, ◌-◌, ◌%◌, ◌^◌, ◌<◌, ◌≤◌, Bool, true, false, ◌&&◌, ltb, List, [], ℤ, pos, negsuc, neg_ℤ, ◌≤ℤ◌, refl, ap, subst, arith}
use Rattle.std.specs.Prelude.{int_le}
use Rattle.std.specs.Int.{cast_signed, w64}
use Rattle.std.specs.List.{list_all}
use Rattle.std.proofs.lemmas.Bool.{ltb-true, ltb-false, lt-ltb, le-ltb}
use Rattle.std.proofs.lemmas.Int.{ints}
use Rattle.vk_types.specs.declared.types.Ty.{Ty}
use Rattle.vk_types.specs.declared.types.Ty.TheVariants.{I8, I16, I32, I64, U8, U16, U32, U64}
use Rattle.vk_types.specs.declared.types.Word.{Word}
use Rattle.vk_types.specs.Conversions.{greatest_of, least_of}
use Rattle.vk_types.specs.Numbers.{number_of}
use Rattle.vk_kinds.specs.Sizes.{bytes_of}
use Rattle.vk_code.proofs.Faults.{and_left, and_right}
use Rattle.vk_code.specs.Valid.{is_canonical}
use Rattle.vk_object.specs.Texts.{is_word_of}
use Rattle.vk_format.specs.Codec.{FitAfter}
use Rattle.vk_code_format.specs.Fields.{element, extended}
use Rattle.vk_object_format.specs.declared.rows.RawObject.{RawObject}
use Rattle.vk_object_laws.specs.Ranges.{word_in_range}
use Rattle.vk_object_laws.proofs.Elements.{great_number, small_number}
use Rattle.vk_object_laws.proofs.Fitting.{fit_here, lt_of}
use Rattle.vk_object_laws.proofs.FitCodes.{all_both}

le_from : (x y : ℤ) → int_le x y ≡ true → x ≤ℤ y
le_from x y h = grind (arith, ints)

least_le : (t : Ty) (n : ℕ) → is_canonical t n ≡ true → int_le (least_of t) (number_of t n) ≡ true
least_le t n h = and_left (int_le (least_of t) (number_of t n)) (int_le (number_of t n) (greatest_of t)) h

le_greatest : (t : Ty) (n : ℕ) → is_canonical t n ≡ true → int_le (number_of t n) (greatest_of t) ≡ true
le_greatest t n h = and_right (int_le (least_of t) (number_of t n)) (int_le (number_of t n) (greatest_of t)) h

-- the low bytes of a number of at most 32 bits in two's complement, where `half` is half of what they hold
module _ (half n : ℕ) (low : int_le (neg_ℤ (pos half)) (cast_signed w64 n) ≡ true) (high : int_le (cast_signed w64 n) (pos (half - 1)) ≡ true) where
  small_below : n < 2 ^ 63 → 0 < half → n < half
  small_below lt some =
      let h : pos n ≤ℤ pos (half - 1) = le_from (pos n) (pos (half - 1)) (subst (λ z. int_le z (pos (half - 1)) ≡ true) (small_number n lt) high) in
      omega (arith, ints, h, some)

  great_above : 2 ^ 63 ≤ n → n < 2 ^ 64 → 2 ^ 64 ≤ n + half
  great_above le lt =
      let h : neg_ℤ (pos half) ≤ℤ negsuc (2 ^ 64 - suc n) = le_from (neg_ℤ (pos half)) (negsuc (2 ^ 64 - suc n)) (subst (λ z. int_le (neg_ℤ (pos half)) z ≡ true) (great_number n le) low) in
      omega (arith, ints, h, lt)

module _ (n : ℕ) (lt : n < 2 ^ 64) where
  byte_back : (b : Bool) → ltb n (2 ^ 63) ≡ b → is_canonical I8 n ≡ true → extended I8 (n % 256) ≡ n
  byte_back true e h =
      let below : n < 128 = small_below 128 n (least_le I8 n h) (le_greatest I8 n h) (ltb-true n (2 ^ 63) e) (omega arith) in
      let same : n % 256 ≡ n = omega (arith, below) in
      rw (same, lt-ltb n 128 below) refl
  byte_back false e h =
      let above : 2 ^ 64 ≤ n + 128 = great_above 128 n (least_le I8 n h) (le_greatest I8 n h) (ltb-false n (2 ^ 63) e) lt in
      let same : n % 256 ≡ n - (2 ^ 64 - 256) = omega (arith, above, lt) in
      rw (same, le-ltb (n - (2 ^ 64 - 256)) 128 (omega (arith, above, lt))) (omega (arith, above, lt))

  short_back : (b : Bool) → ltb n (2 ^ 63) ≡ b → is_canonical I16 n ≡ true → extended I16 (n % 65536) ≡ n
  short_back true e h =
      let below : n < 32768 = small_below 32768 n (least_le I16 n h) (le_greatest I16 n h) (ltb-true n (2 ^ 63) e) (omega arith) in
      let same : n % 65536 ≡ n = omega (arith, below) in
      rw (same, lt-ltb n 32768 below) refl
  short_back false e h =
      let above : 2 ^ 64 ≤ n + 32768 = great_above 32768 n (least_le I16 n h) (le_greatest I16 n h) (ltb-false n (2 ^ 63) e) lt in
      let same : n % 65536 ≡ n - (2 ^ 64 - 65536) = omega (arith, above, lt) in
      rw (same, le-ltb (n - (2 ^ 64 - 65536)) 32768 (omega (arith, above, lt))) (omega (arith, above, lt))

  int_back : (b : Bool) → ltb n (2 ^ 63) ≡ b → is_canonical I32 n ≡ true → extended I32 (n % 4294967296) ≡ n
  int_back true e h =
      let below : n < 2147483648 = small_below 2147483648 n (least_le I32 n h) (le_greatest I32 n h) (ltb-true n (2 ^ 63) e) (omega arith) in
      let same : n % 4294967296 ≡ n = omega (arith, below) in
      rw (same, lt-ltb n 2147483648 below) refl
  int_back false e h =
      let above : 2 ^ 64 ≤ n + 2147483648 = great_above 2147483648 n (least_le I32 n h) (le_greatest I32 n h) (ltb-false n (2 ^ 63) e) lt in
      let same : n % 4294967296 ≡ n - (2 ^ 64 - 4294967296) = omega (arith, above, lt) in
      rw (same, le-ltb (n - (2 ^ 64 - 4294967296)) 2147483648 (omega (arith, above, lt))) (omega (arith, above, lt))

  unsigned_below : (most : ℕ) → (int_le (pos 0) (pos n) && int_le (pos n) (pos most)) ≡ true → n ≤ most
  unsigned_below most h = let le : pos n ≤ℤ pos most = le_from (pos n) (pos most) (and_right (int_le (pos 0) (pos n)) (int_le (pos n) (pos most)) h) in omega (arith, ints, le)

  back : (t : Ty) → is_canonical t n ≡ true → extended t (n % 256 ^ bytes_of t) ≡ n
  back I8 h = byte_back (ltb n (2 ^ 63)) refl h
  back I16 h = short_back (ltb n (2 ^ 63)) refl h
  back I32 h = int_back (ltb n (2 ^ 63)) refl h
  back I64 h = omega (arith, lt)
  back U8 h = let le = unsigned_below 255 h in omega (arith, le)
  back U16 h = let le = unsigned_below 65535 h in omega (arith, le)
  back U32 h = let le = unsigned_below 4294967295 h in omega (arith, le)
  back U64 h = omega (arith, lt)

low_fits : (t : Ty) (n : ℕ) → n % 256 ^ bytes_of t < 256 ^ bytes_of t
low_fits I8 n = omega arith
low_fits I16 n = omega arith
low_fits I32 n = omega arith
low_fits I64 n = omega arith
low_fits U8 n = omega arith
low_fits U16 n = omega arith
low_fits U32 n = omega arith
low_fits U64 n = omega arith

element_fit : (t : Ty) (w : Word) → (word_in_range w && is_word_of t w) ≡ true → (element {R = RawObject} t).fits w
element_fit t w h =
    (low_fits t w.0, ap (λ n. record { 0 = n }) (back w.0 (lt_of w.0 (2 ^ 64) (and_left (word_in_range w) (is_word_of t w) h)) t (and_right (word_in_range w) (is_word_of t w) h)))

pub elements_fit : (t : Ty) (ws : List Word) → list_all word_in_range ws ≡ true → list_all (is_word_of t) ws ≡ true → FitAfter (λ before. element {R = RawObject} t) [] ws
elements_fit t ws r h = fit_here (λ before. element {R = RawObject} t) (λ w. word_in_range w && is_word_of t w) (λ before w. element_fit t w) [] ws (all_both word_in_range (is_word_of t) ws r h)
