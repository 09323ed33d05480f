-- Elements that are read are canonical for their type.
use Rattle.std.proofs.Common.{◌≡◌, ℕ, suc, ◌+◌, ◌*◌, ◌-◌, ◌%◌, ◌^◌, ◌<◌, ◌≤◌, Bool, true, false, ◌&&◌, cond, ltb, List, [], ℤ, pos, negsuc, neg_ℤ, ◌≤ℤ◌, refl, subst, arith}
use Rattle.std.specs.Prelude.{int_le}
use Rattle.std.specs.Int.{cast_signed, w64}
use Rattle.std.specs.List.{list_all}
use Rattle.std.proofs.lemmas.Bool.{ltb-true, ltb-false, lt-ltb, le-ltb}
use Rattle.std.proofs.lemmas.Int.{ints}
use Rattle.vk_types.specs.declared.types.Ty.{Ty}
use Rattle.vk_types.specs.declared.types.Ty.TheVariants.{I8, I16, I32, I64, U8, U16, U32, U64}
use Rattle.vk_types.specs.declared.types.Word.{Word}
use Rattle.vk_kinds.specs.Sizes.{bytes_of}
use Rattle.vk_code.specs.Valid.{is_canonical}
use Rattle.vk_object.specs.Texts.{is_word_of}
use Rattle.vk_format.specs.Codec.{FitAfter}
use Rattle.vk_code_format.specs.Fields.{element, extended}
use Rattle.vk_object_format.specs.declared.rows.RawObject.{RawObject}
use Rattle.vk_object_laws.proofs.Lists.{all_fit_here, and_true}

int_le-true : (x y : ℤ) → x ≤ℤ y → int_le x y ≡ true
int_le-true x y h = grind (arith, ints)

within : (low high z : ℤ) → low ≤ℤ z → z ≤ℤ high → (int_le low z && int_le z high) ≡ true
within low high z l h = and_true (int_le low z) (int_le z high) (int_le-true low z l) (int_le-true z high h)

pub small_number : (n : ℕ) → n < 2 ^ 63 → cast_signed w64 n ≡ pos n
small_number n h = rw (lt-ltb _ _ h) refl

pub great_number : (n : ℕ) → 2 ^ 63 ≤ n → cast_signed w64 n ≡ negsuc (2 ^ 64 - suc n)
great_number n h = rw (le-ltb _ _ h) refl

-- a number in two's complement of 1 + k bits, where `half` is 2 to the k
signed_within : (half n : ℕ) → half ≤ 2 ^ 63 → 0 < half → n < 2 * half → (b : Bool) → ltb n half ≡ b
    → (int_le (neg_ℤ (pos half)) (cast_signed w64 (cond b n (n + (2 ^ 64 - 2 * half)))) && int_le (cast_signed w64 (cond b n (n + (2 ^ 64 - 2 * half)))) (pos (half - 1))) ≡ true
signed_within half n few some lt true e =
    let low : n < half = ltb-true _ _ e in
    rw (small_number n (omega (arith, few, low))) (within (neg_ℤ (pos half)) (pos (half - 1)) (pos n) (omega (arith, ints)) (omega (arith, ints, low)))
signed_within half n few some lt false e =
    let high : half ≤ n = ltb-false _ _ e in
    let m = n + (2 ^ 64 - 2 * half) in
    rw (great_number m (omega (arith, few, high))) (within (neg_ℤ (pos half)) (pos (half - 1)) (negsuc (2 ^ 64 - suc m)) (omega (arith, ints, few, lt, high)) (omega (arith, ints)))

whole_within : (n : ℕ) → n < 2 ^ 64 → (b : Bool) → ltb n (2 ^ 63) ≡ b
    → (int_le (neg_ℤ (pos (2 ^ 63))) (cast_signed w64 n) && int_le (cast_signed w64 n) (pos (2 ^ 63 - 1))) ≡ true
whole_within n lt true e =
    let low : n < 2 ^ 63 = ltb-true _ _ e in
    rw (small_number n low) (within (neg_ℤ (pos (2 ^ 63))) (pos (2 ^ 63 - 1)) (pos n) (omega (arith, ints)) (omega (arith, ints, low)))
whole_within n lt false e =
    let high : 2 ^ 63 ≤ n = ltb-false _ _ e in
    rw (great_number n high) (within (neg_ℤ (pos (2 ^ 63))) (pos (2 ^ 63 - 1)) (negsuc (2 ^ 64 - suc n)) (omega (arith, ints, lt, high)) (omega (arith, ints)))

unsigned_within : (n most : ℕ) → n < suc most → (int_le (pos 0) (pos n) && int_le (pos n) (pos most)) ≡ true
unsigned_within n most h = within (pos 0) (pos most) (pos n) (omega (arith, ints)) (omega (arith, ints, h))

canonical : (t : Ty) (n : ℕ) → n < 256 ^ bytes_of t → is_canonical t (extended t n) ≡ true
canonical I8 n h = signed_within 128 n (omega arith) (omega arith) h (ltb n 128) refl
canonical I16 n h = signed_within 32768 n (omega arith) (omega arith) h (ltb n 32768) refl
canonical I32 n h = signed_within 2147483648 n (omega arith) (omega arith) h (ltb n 2147483648) refl
canonical I64 n h = whole_within n h (ltb n (2 ^ 63)) refl
canonical U8 n h = unsigned_within n 255 h
canonical U16 n h = unsigned_within n 65535 h
canonical U32 n h = unsigned_within n 4294967295 h
canonical U64 n h = unsigned_within n 18446744073709551615 h

element_fits : (t : Ty) (w : Word) → (element {R = RawObject} t).fits w → is_word_of t w ≡ true
element_fits t w h = subst (λ x. is_word_of t x ≡ true) h.1 (canonical t (w.0 % 256 ^ bytes_of t) h.0)

pub elements_fit : (t : Ty) (ws : List Word) → FitAfter (λ before. element {R = RawObject} t) [] ws → list_all (is_word_of t) ws ≡ true
elements_fit t ws h = all_fit_here (λ before. element {R = RawObject} t) (is_word_of t) (λ before w. element_fits t w) [] ws h
