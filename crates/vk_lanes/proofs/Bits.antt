-- Lanes as bits of bytes.
use Rattle.std.proofs.Common.{◌≡◌, ℕ, zero, suc, ◌+◌, ◌-◌, ◌*◌, ◌/◌, ◌%◌, ◌^◌, ◌<◌, ◌≤◌, ◌≢◌, ◌⊎◌, inl, inr, min, max, List, [], ◌∷◌, length, get_or, set, Bool, true, false, true≢false, not, ◌&&◌, ◌||◌, cond, ltb, eqb, bit_and, bit_or, bit_xor, replicate, ap, ap₂, sym, subst, ◌∙◌, refl, arith, map, lit≤, w8, w64}
use Rattle.std.proofs.lemmas.Nat.Bits.{bit_at-lt, bit_at-zero, bit_at_and, bit_at_clear_other, bit_at_clear_same, bit_at_not, bit_at_ones, bit_at_set_other, bit_at_set_same, bit_at_or, bit_at_xor, shr_and_one}
use Rattle.std.proofs.lemmas.Simd.{bit_mask_l, bitmask_splat, get_or-zip2, mask_l-lt}
use Rattle.std.proofs.lemmas.List.{get_or-map, length-map}
use lib.Lanes.{mask_l, top}
use Rattle.std.proofs.lemmas.Bool.{cases_lt, eq-eqb}
use Rattle.std.proofs.lemmas.Bool.Decides.{eqb_tells, nat_tests}
use Rattle.std.proofs.lemmas.List.{get_or-set_same, get_or-set_other}
use Rattle.std.specs.Int.{bit_at, bit_not}
use Rattle.std.specs.Simd.Lanes.{zip2}
use Rattle.vk_lanes.specs.declared.mask.LaneMask.{LaneMask}
use Rattle.vk_lanes.specs.Masks.{is_on}

-- the bit of a lane
abbrev pub bit_of : LaneMask → ℕ → ℕ
bit_of m i = bit_at (get_or m.bytes (i / 8) 0) (i % 8)

pub on_read : (m : LaneMask) (i : ℕ) → i < m.lanes → is_on m i ≡ eqb (bit_of m i) 1
unfolding is_on
on_read m i h = let e : ltb i m.lanes ≡ true = grind (arith, nat_tests) in ap (λ b. b && eqb (bit_of m i) 1) e

pub on_past : (m : LaneMask) (i : ℕ) → m.lanes ≤ i → is_on m i ≡ false
unfolding is_on
on_past m i h = let e : ltb i m.lanes ≡ false = grind (arith, nat_tests) in ap (λ b. b && eqb (bit_of m i) 1) e

-- a lane that is on is one of the mask's
pub inside : (m : LaneMask) (i : ℕ) → is_on m i ≡ true → i < m.lanes
inside m i h = elim (cases_lt i m.lanes) [ inl l ↦ l | inr past ↦ absurd (true≢false (sym h ∙ on_past m i past)) ]

-- the place of a lane's byte
byte_place : (lanes i : ℕ) → lanes ≤ 256 → i < lanes → i / 8 < 32
byte_place lanes i h l = omega arith

-- no lane is on where each byte is 0
zeros_at : (n k : ℕ) → get_or {A = ℕ} (replicate n 0) k 0 ≡ 0
zeros_at zero k = refl
zeros_at (suc n) zero = refl
zeros_at (suc n) (suc k) = zeros_at n k

pub all_off : (m : LaneMask) → m.bytes ≡ replicate 32 0 → (i : ℕ) → is_on m i ≡ false
all_off m e i = elim (cases_lt i m.lanes) [
  | inl low ↦ on_read m i low ∙ ap (λ b. eqb (bit_at b (i % 8)) 1) (ap (λ bytes. get_or bytes (i / 8) 0) e ∙ zeros_at 32 (i / 8)) ∙ ap (λ b. eqb b 1) (bit_at-zero (i % 8))
  | inr high ↦ on_past m i high
]

ones_at : (n k : ℕ) → k < n → get_or {A = ℕ} (replicate n 255) k 0 ≡ 255
ones_at zero k h = absurd (omega arith)
ones_at (suc n) zero h = refl
ones_at (suc n) (suc k) h = ones_at n k (omega arith)

-- all lanes are on where each byte has all bits
pub all_on : (m : LaneMask) → m.bytes ≡ replicate 32 255 → (i : ℕ) → is_on m i ≡ ltb i m.lanes
all_on m e i = elim (cases_lt i m.lanes) [
  | inl low ↦
      let small : m.lanes ≤ 256 = m.within in
      let place : i / 8 < 32 = byte_place m.lanes i small low in
      let within : ltb i m.lanes ≡ true = grind (arith, nat_tests) in
      on_read m i low ∙ ap (λ b. eqb (bit_at b (i % 8)) 1) (ap (λ bytes. get_or bytes (i / 8) 0) e ∙ ones_at 32 (i / 8) place) ∙ ap (λ b. eqb b 1) (bit_at_ones 8 (i % 8) (omega arith)) ∙ sym within
  | inr high ↦ let outside : ltb i m.lanes ≡ false = grind (arith, nat_tests) in on_past m i high ∙ sym outside
]

pub read_lane : (m : LaneMask) (i : ℕ) → i < m.lanes → eqb (bit_and (get_or m.bytes (i / 8) 0 / 2 ^ (i % 8)) 1) 1 ≡ is_on m i
read_lane m i h = ap (λ b. eqb b 1) (shr_and_one (get_or m.bytes (i / 8) 0) (i % 8)) ∙ sym (on_read m i h)

-- bits
pub two : (b : ℕ) → b < 2 → (b ≡ 0) ⊎ (b ≡ 1)
two b h = elim (cases_lt b 1) [ inl l ↦ inl (omega arith) | inr l ↦ inr (omega arith) ]

by_bits : (P : ℕ → ℕ → Type 0) → P 0 0 → P 0 1 → P 1 0 → P 1 1 → (x y : ℕ) → x < 2 → y < 2 → P x y
by_bits P a b c d x y h k = elim (two x h) [
  | inl e ↦ elim (two y k) [ inl f ↦ subst (λ x. P x y) (sym e) (subst (P 0) (sym f) a) | inr f ↦ subst (λ x. P x y) (sym e) (subst (P 0) (sym f) b) ]
  | inr e ↦ elim (two y k) [ inl f ↦ subst (λ x. P x y) (sym e) (subst (P 1) (sym f) c) | inr f ↦ subst (λ x. P x y) (sym e) (subst (P 1) (sym f) d) ]
]

pub and_bits : (a b i : ℕ) → eqb (bit_at (bit_and a b) i) 1 ≡ (eqb (bit_at a i) 1 && eqb (bit_at b i) 1)
and_bits a b i = ap (λ x. eqb x 1) (bit_at_and a b i) ∙ by_bits (λ x y. eqb (min x y) 1 ≡ (eqb x 1 && eqb y 1)) refl refl refl refl (bit_at a i) (bit_at b i) (bit_at-lt a i) (bit_at-lt b i)

pub or_bits : (a b i : ℕ) → eqb (bit_at (bit_or a b) i) 1 ≡ (eqb (bit_at a i) 1 || eqb (bit_at b i) 1)
or_bits a b i = ap (λ x. eqb x 1) (bit_at_or a b i) ∙ by_bits (λ x y. eqb (max x y) 1 ≡ (eqb x 1 || eqb y 1)) refl refl refl refl (bit_at a i) (bit_at b i) (bit_at-lt a i) (bit_at-lt b i)

pub but_bits : (a b i : ℕ) → eqb (bit_at (bit_xor a (bit_and a b)) i) 1 ≡ (eqb (bit_at a i) 1 && not (eqb (bit_at b i) 1))
but_bits a b i =
    ap (λ x. eqb x 1) (bit_at_xor a (bit_and a b) i ∙ ap (λ y. (bit_at a i + y) % 2) (bit_at_and a b i))
    ∙ by_bits (λ x y. eqb ((x + min x y) % 2) 1 ≡ (eqb x 1 && not (eqb y 1))) refl refl refl refl (bit_at a i) (bit_at b i) (bit_at-lt a i) (bit_at-lt b i)

-- what is done to the bytes of two masks bit by bit is done to their lanes
pub lane_by_lane : (f : ℕ → ℕ → ℕ) (t : Bool → Bool → Bool) → ((a b i : ℕ) → eqb (bit_at (f a b) i) 1 ≡ t (eqb (bit_at a i) 1) (eqb (bit_at b i) 1)) → t false false ≡ false →
    (m n r : LaneMask) → length m.bytes ≡ 32 → length n.bytes ≡ 32 → n.lanes ≡ m.lanes → r.lanes ≡ m.lanes → r.bytes ≡ zip2 f m.bytes n.bytes → (i : ℕ) → is_on r i ≡ t (is_on m i) (is_on n i)
lane_by_lane f t bits none m n r lm ln en er bytes i = elim (cases_lt i m.lanes) [
  | inl low ↦
      let small : m.lanes ≤ 256 = m.within in
      let place : i / 8 < 32 = byte_place m.lanes i small low in
      on_read r i (omega arith) ∙ ap (λ (bs : List ℕ). eqb (bit_at (get_or bs (i / 8) 0) (i % 8)) 1) bytes
      ∙ ap (λ b. eqb (bit_at b (i % 8)) 1) (get_or-zip2 f m.bytes n.bytes (i / 8) 0 0 0 (omega arith) (omega arith))
      ∙ bits (get_or m.bytes (i / 8) 0) (get_or n.bytes (i / 8) 0) (i % 8)
      ∙ ap₂ t (sym (on_read m i low)) (sym (on_read n i (omega arith)))
  | inr high ↦ on_past r i (omega arith) ∙ sym (ap₂ t (on_past m i high) (on_past n i (omega arith)) ∙ none)
]

-- a mask after one byte was written, in a lane of that byte and in another one
written_here : (m r : LaneMask) (k byte : ℕ) → length m.bytes ≡ 32 → r.lanes ≡ m.lanes → r.bytes ≡ set m.bytes k byte → (i : ℕ) → i < m.lanes → i / 8 ≡ k →
    is_on r i ≡ eqb (bit_at byte (i % 8)) 1
written_here m r k byte lm er bytes i low e =
    let small : m.lanes ≤ 256 = m.within in
    let place : i / 8 < 32 = byte_place m.lanes i small low in
    on_read r i (omega arith) ∙ ap (λ (bs : List ℕ). eqb (bit_at (get_or bs (i / 8) 0) (i % 8)) 1) bytes
    ∙ ap (λ b. eqb (bit_at b (i % 8)) 1) (ap (λ j. get_or (set m.bytes k byte) j 0) e ∙ get_or-set_same m.bytes k byte 0 (omega arith))

written_there : (m r : LaneMask) (k byte : ℕ) → r.lanes ≡ m.lanes → r.bytes ≡ set m.bytes k byte → (i : ℕ) → i < m.lanes → i / 8 ≢ k → is_on r i ≡ is_on m i
written_there m r k byte er bytes i low ne =
    on_read r i (omega arith) ∙ ap (λ (bs : List ℕ). eqb (bit_at (get_or bs (i / 8) 0) (i % 8)) 1) bytes
    ∙ ap (λ b. eqb (bit_at b (i % 8)) 1) (get_or-set_other m.bytes k (i / 8) byte 0 ne) ∙ sym (on_read m i low)

-- eight lanes are the bits of a byte
pub read_block : (m : LaneMask) (k : ℕ) → 8 * k + 8 ≤ m.lanes → (i : ℕ) → i < 8 → eqb (bit_at (get_or m.bytes k 0) i) 1 ≡ is_on m (8 * k + i)
read_block m k h i l =
    let q : (8 * k + i) / 8 ≡ k = omega arith in
    let r : (8 * k + i) % 8 ≡ i = omega arith in
    sym (on_read m (8 * k + i) (omega arith) ∙ ap₂ (λ q r. eqb (bit_at (get_or m.bytes q 0) r) 1) q r)

pub written_block : (m r : LaneMask) (k byte : ℕ) → length m.bytes ≡ 32 → 8 * k + 8 ≤ m.lanes → r.lanes ≡ m.lanes → r.bytes ≡ set m.bytes k byte → (i : ℕ) →
    is_on r i ≡ cond (eqb (i / 8) k) (eqb (bit_at byte (i % 8)) 1) (is_on m i)
written_block m r k byte lm hk er bytes i = elim (eqb_tells (i / 8) k) [
  | inl here ↦ written_here m r k byte lm er bytes i (let e = here.1 in omega arith) here.1 ∙ ap (λ t. cond t (eqb (bit_at byte (i % 8)) 1) (is_on m i)) (sym here.0)
  | inr there ↦ elsewhere there.1 ∙ ap (λ t. cond t (eqb (bit_at byte (i % 8)) 1) (is_on m i)) (sym there.0)
]
  where
    elsewhere : i / 8 ≢ k → is_on r i ≡ is_on m i
    elsewhere ne = elim (cases_lt i m.lanes) [
      | inl low ↦ written_there m r k byte er bytes i low ne
      | inr high ↦ on_past r i (omega arith) ∙ sym (on_past m i high)
    ]

-- a mask after one lane was set, where the byte has that bit changed and no other
pub not_eqb : (a b : ℕ) → a ≢ b → eqb a b ≡ false
not_eqb a b ne = elim (eqb_tells a b) [ inl e ↦ absurd (ne e.1) | inr e ↦ e.0 ]

pub one_on : (on : Bool) → eqb (cond on 1 0) 1 ≡ on
one_on true = refl
one_on false = refl

pub written_lane : (m r : LaneMask) (lane byte : ℕ) (on : Bool) → length m.bytes ≡ 32 → lane < m.lanes → r.lanes ≡ m.lanes → r.bytes ≡ set m.bytes (lane / 8) byte →
    ((i : ℕ) → i < 8 → bit_at byte i ≡ cond (eqb i (lane % 8)) (cond on 1 0) (bit_at (get_or m.bytes (lane / 8) 0) i)) → (i : ℕ) → is_on r i ≡ cond (eqb i lane) on (is_on m i)
written_lane m r lane byte on lm inside er bytes bits i = elim (eqb_tells i lane) [
  | inl here ↦ at here.1 ∙ ap (λ t. cond t on (is_on m i)) (sym here.0)
  | inr there ↦ elsewhere there.1 ∙ ap (λ t. cond t on (is_on m i)) (sym there.0)
]
  where
    below : i % 8 < 8
    below = omega arith

    bit : eqb (bit_at byte (i % 8)) 1 ≡ eqb (cond (eqb (i % 8) (lane % 8)) (cond on 1 0) (bit_at (get_or m.bytes (lane / 8) 0) (i % 8))) 1
    bit = ap (λ b. eqb b 1) (bits (i % 8) below)

    at : i ≡ lane → is_on r i ≡ on
    at e = written_here m r (lane / 8) byte lm er bytes i (omega arith) (ap (λ n. n / 8) e) ∙ bit
        ∙ ap (λ t. eqb (cond t (cond on 1 0) (bit_at (get_or m.bytes (lane / 8) 0) (i % 8))) 1) (eq-eqb (i % 8) (lane % 8) (ap (λ n. n % 8) e)) ∙ one_on on

    in_byte : i < m.lanes → i / 8 ≡ lane / 8 → i % 8 ≢ lane % 8 → is_on r i ≡ is_on m i
    in_byte low e ne = written_here m r (lane / 8) byte lm er bytes i low e ∙ bit
        ∙ ap (λ t. eqb (cond t (cond on 1 0) (bit_at (get_or m.bytes (lane / 8) 0) (i % 8))) 1) (not_eqb (i % 8) (lane % 8) ne)
        ∙ ap (λ k. eqb (bit_at (get_or m.bytes k 0) (i % 8)) 1) (sym e) ∙ sym (on_read m i low)

    elsewhere : i ≢ lane → is_on r i ≡ is_on m i
    elsewhere ne = elim (cases_lt i m.lanes) [
      | inl low ↦ elim (eqb_tells (i / 8) (lane / 8)) [
        | inl same ↦ in_byte low same.1 (λ e. ne (let q = same.1 in omega arith))
        | inr other ↦ written_there m r (lane / 8) byte er bytes i low other.1
      ]
      | inr high ↦ on_past r i (omega arith) ∙ sym (on_past m i high)
    ]

-- a byte with one bit set or cleared
pub bit_set : (byte place : ℕ) → place < 8 → (i : ℕ) → i < 8 → bit_at (bit_or byte (1 * 2 ^ place % 256)) i ≡ cond (eqb i place) 1 (bit_at byte i)
bit_set byte place h i l = elim (eqb_tells i place) [
  | inl here ↦ ap (bit_at (bit_or byte (1 * 2 ^ place % 256))) here.1 ∙ bit_at_set_same w8 byte place h ∙ ap (λ t. cond t 1 (bit_at byte i)) (sym here.0)
  | inr there ↦ bit_at_set_other w8 byte place h i there.1 ∙ ap (λ t. cond t 1 (bit_at byte i)) (sym there.0)
]

pub bit_cleared : (byte place : ℕ) → place < 8 → (i : ℕ) → i < 8 → bit_at (bit_and byte (bit_not w8 (1 * 2 ^ place % 256))) i ≡ cond (eqb i place) 0 (bit_at byte i)
bit_cleared byte place h i l = elim (eqb_tells i place) [
  | inl here ↦ ap (bit_at (bit_and byte (bit_not w8 (1 * 2 ^ place % 256)))) here.1 ∙ bit_at_clear_same w8 byte place h ∙ ap (λ t. cond t 0 (bit_at byte i)) (sym here.0)
  | inr there ↦ bit_at_clear_other w8 byte place h i l there.1 ∙ ap (λ t. cond t 0 (bit_at byte i)) (sym there.0)
]

-- the bits of one byte where those of another are set, else those of a third
not_bit : (on i : ℕ) → on < 256 → i < 8 → eqb (bit_at (bit_not w8 on) i) 1 ≡ not (eqb (bit_at on i) 1)
not_bit on i h l = ap (λ b. eqb b 1) (bit_at_not w8 on i h l) ∙ elim (two (bit_at on i) (bit_at-lt on i)) [
  | inl e ↦ ap (λ b. eqb (1 - b) 1) e ∙ ap (λ b. not (eqb b 1)) (sym e)
  | inr e ↦ ap (λ b. eqb (1 - b) 1) e ∙ ap (λ b. not (eqb b 1)) (sym e)
]

by_flag : (new on old : Bool) → ((new && on) || (old && not on)) ≡ cond on new old
by_flag true true true = refl
by_flag true true false = refl
by_flag true false true = refl
by_flag true false false = refl
by_flag false true true = refl
by_flag false true false = refl
by_flag false false true = refl
by_flag false false false = refl

pub chosen_bits : (on new old : ℕ) → on < 256 → (i : ℕ) → i < 8 →
    eqb (bit_at (bit_or (bit_and new on) (bit_and old (bit_not w8 on))) i) 1 ≡ cond (eqb (bit_at on i) 1) (eqb (bit_at new i) 1) (eqb (bit_at old i) 1)
chosen_bits on new old h i l =
    or_bits (bit_and new on) (bit_and old (bit_not w8 on)) i
    ∙ ap₂ (λ a b. a || b) (and_bits new on i) (and_bits old (bit_not w8 on) i ∙ ap (λ b. eqb (bit_at old i) 1 && b) (not_bit on i h l))
    ∙ by_flag (eqb (bit_at new i) 1) (eqb (bit_at on i) 1) (eqb (bit_at old i) 1)

-- which words of a vector are not 0, as a number
pub nonzero_mask : (xs : List ℕ) → length xs ≡ 8 →
    mask_l (map (top 63) (zip2 (λ x y. cond (not (eqb x y)) (2 ^ 64 - 1) 0) xs (0 ∷ 0 ∷ 0 ∷ 0 ∷ 0 ∷ 0 ∷ 0 ∷ 0 ∷ []))) % 2 ^ 64 ≡ mask_l (map (λ x. not (eqb x 0)) xs)
nonzero_mask xs n = bitmask_splat w64 (λ x y. not (eqb x y)) xs 8 0 n (lit≤ tt)

pub nonzero-lt : (xs : List ℕ) → length xs ≡ 8 → mask_l (map (λ x. not (eqb x 0)) xs) < 2 ^ 8
nonzero-lt xs n = subst (λ k. mask_l (map (λ x. not (eqb x 0)) xs) < 2 ^ k) (length-map xs (λ x. not (eqb x 0)) ∙ n) (mask_l-lt (map (λ x. not (eqb x 0)) xs))

pub nonzero_bit : (xs : List ℕ) → length xs ≡ 8 → (i : ℕ) → i < 8 → eqb (bit_at (mask_l (map (λ x. not (eqb x 0)) xs)) i) 1 ≡ not (eqb (get_or xs i 0) 0)
nonzero_bit xs n i l = ap (λ b. eqb b 1) (bit_mask_l (map (λ x. not (eqb x 0)) xs) i) ∙ one_on (get_or (map (λ x. not (eqb x 0)) xs) i false) ∙ get_or-map (λ x. not (eqb x 0)) xs i 0 false (omega arith)
