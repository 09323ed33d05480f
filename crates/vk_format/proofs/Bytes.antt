-- A number that is read and written again has the same bytes, and one that is written is read again.
use Rattle.std.proofs.Common.{◌≡◌, ℕ, zero, suc, ◌+◌, ◌*◌, ◌/◌, ◌%◌, ◌^◌, ◌<◌, List, [], ◌∷◌, length, take, drop, refl, sym, ap, ◌∙◌, inl, inr, arith, append-nil}
use Rattle.std.proofs.Math.Nat.{pow-suc, div-div-eq-div-mul}
use Rattle.std.proofs.lemmas.Bool.{cases_lt}
use Rattle.std.proofs.lemmas.List.{get_or-drop, get_or-take, get_or_past, length-take}
use Rattle.std.specs.List.{AllByRecursion}
use Rattle.std.specs.Int.{byte_at, bytes_low_first}
use Rattle.byteorder.specs.Endian.{little_bytes, little_number}
use Rattle.vk_format.specs.Bytes.{IsBytes}
use Rattle.byteorder.specs.Numbers.{little_from-cons, little_from-lt, length-bytes_low_first, little_number-reads_back}

pub IsBytes-drop : (n : ℕ) (bytes : List ℕ) → IsBytes bytes → IsBytes (drop n bytes)
IsBytes-drop n bytes h i = rw get_or-drop (h (n + i))

pub IsBytes-take : (n : ℕ) (bytes : List ℕ) → IsBytes bytes → IsBytes (take n bytes)
IsBytes-take n bytes h i =
    elim (cases_lt i n) [
      | inl lt ↦ rw (get_or-take n bytes i 0 lt) (h i)
      | inr le ↦ rw (get_or_past (take n bytes) i 0 (omega (arith, length-take n bytes))) (omega arith)
    ]

pub all_bytes : (bytes : List ℕ) → IsBytes bytes → AllByRecursion (λ b. b < 256) bytes
all_bytes [] h = tt
all_bytes (b ∷ bs) h = (h 0, all_bytes bs (λ i. h (suc i)))

-- a byte above the lowest
byte_above : (k b m : ℕ) → b < 256 → byte_at (suc k) (b + 256 * m) ≡ byte_at k m
byte_above zero b m lt = omega arith
byte_above (suc k) b m lt =
    let high : (b + 256 * m) / 256 ≡ m = omega arith in
    let split : (n : ℕ) → (b + 256 * m) / 256 ^ suc n ≡ m / 256 ^ n = λ n. ap (λ (p : ℕ). (b + 256 * m) / p) (pow-suc 256 n ∙ omega arith) ∙ sym (div-div-eq-div-mul (b + 256 * m) 256 (256 ^ n)) ∙ ap (λ (x : ℕ). x / 256 ^ n) high in
    ap (λ (x : ℕ). x % 256) (split (suc k))

bytes_above : (j n b m : ℕ) → b < 256 → bytes_low_first (suc j) n (b + 256 * m) ≡ bytes_low_first j n m
bytes_above j zero b m lt = refl
bytes_above j (suc n) b m lt = rw (byte_above j b m lt, bytes_above (suc j) n b m lt) refl

-- a field that is read and written again has the same bytes
pub bytes_again : (bytes : List ℕ) → IsBytes bytes → little_bytes (length bytes) (little_number (length bytes) bytes) ≡ bytes
bytes_again [] h = refl
bytes_again (b ∷ bs) h =
    let lt : b < 256 = h 0 in
    let rest = bytes_again bs (λ i. h (suc i)) in
    let low : byte_at 0 (b + 256 * little_number (length bs) bs) ≡ b = omega arith in
    let moved = little_from-cons 0 (length bs) b bs in
    rw (moved, low, bytes_above 0 (length bs) b (little_number (length bs) bs) lt, rest) refl

pub number_fits : (n : ℕ) (bytes : List ℕ) → IsBytes bytes → little_number n bytes < 256 ^ n
number_fits n bytes h = little_from-lt 0 n bytes h

pub number_again : (n x : ℕ) → x < 256 ^ n → little_number n (little_bytes n x) ≡ x
number_again n x h = ap (little_number n) (sym (append-nil (little_bytes n x))) ∙ little_number-reads_back n x [] h

pub length-little_bytes : (n x : ℕ) → length (little_bytes n x) ≡ n
length-little_bytes n x = length-bytes_low_first 0 n x
