-- Rows of words, written a part at a time.
use Rattle.std.proofs.Common.{◌≡◌, ℕ, zero, suc, ◌+◌, ◌-◌, ◌*◌, ◌^◌, ◌<◌, ◌≤◌, ◌≢◌, ◌⊎◌, inl, inr, List, [], ◌∷◌, length, get_or, set, Bool, true, false, not, ◌&&◌, ◌||◌, cond, ltb, leb, eqb, bit_and, map, ap, ap₂, sym, ◌∙◌, refl, arith, w64}
use Rattle.std.proofs.Math.Pow.{pow_pos}
use Rattle.std.proofs.lemmas.Nat.Bits.{and_pow, bit_at-lt}
use Rattle.std.proofs.lemmas.Simd.{get_or-sel_l, tops_compared}
use Rattle.std.proofs.lemmas.Bool.{cases_lt}
use Rattle.std.proofs.lemmas.Bool.Decides.{eqb_tells, leb_tells, nat_tests}
use Rattle.std.proofs.lemmas.List.{get_or-set_same, get_or-set_other}
use Rattle.std.specs.Int.{bit_at}
use Rattle.std.specs.Simd.Lanes.{zip2}
use lib.Lanes.{sel_l, top}
use Rattle.vk_types.specs.declared.types.Word.{Word}
use Rattle.vk_lanes.specs.Words.{word_in}
use Rattle.vk_lanes.specs.Inner.Blocks.{Marks, SetsOn, WritesFrom, WritesOn, chosen, is_between, picked}
use Rattle.vk_lanes.specs.declared.mask.LaneMask.{LaneMask}
use Rattle.vk_lanes.specs.Masks.{is_on}
use Rattle.vk_lanes.specs.Kernels.{Writes}
use Rattle.vk_lanes.proofs.Bits.{not_eqb, two}

-- a number below eight
pub below_eight : (P : ℕ → Type 0) → P 0 → P 1 → P 2 → P 3 → P 4 → P 5 → P 6 → P 7 → (i : ℕ) → i < 8 → P i
below_eight P a b c d e f g h zero l = a
below_eight P a b c d e f g h (suc zero) l = b
below_eight P a b c d e f g h (suc (suc zero)) l = c
below_eight P a b c d e f g h (suc (suc (suc zero))) l = d
below_eight P a b c d e f g h (suc (suc (suc (suc zero)))) l = e
below_eight P a b c d e f g h (suc (suc (suc (suc (suc zero))))) l = f
below_eight P a b c d e f g h (suc (suc (suc (suc (suc (suc zero)))))) l = g
below_eight P a b c d e f g h (suc (suc (suc (suc (suc (suc (suc zero))))))) l = h
below_eight P a b c d e f g h (suc (suc (suc (suc (suc (suc (suc (suc i)))))))) l = absurd (omega arith)

-- a lane's bit of a byte, met with the byte
flag : (b i : ℕ) → not (eqb (bit_and b (2 ^ i)) 0) ≡ eqb (bit_at b i) 1
flag b i = ap (λ x. not (eqb x 0)) (and_pow b i) ∙ elim (two (bit_at b i) (bit_at-lt b i)) [
  | inl off ↦ ap (λ x. not (eqb (x * 2 ^ i) 0)) off ∙ none ∙ ap (λ x. eqb x 1) (sym off)
  | inr on ↦ ap (λ x. not (eqb (x * 2 ^ i) 0)) on ∙ ap not (not_eqb (1 * 2 ^ i) 0 positive) ∙ ap (λ x. eqb x 1) (sym on)
]
  where
    none : not (eqb (0 * 2 ^ i) 0) ≡ false
    none = let e : 0 * 2 ^ i ≡ 0 = omega arith in ap (λ x. not (eqb x 0)) e

    positive : 1 * 2 ^ i ≢ 0
    positive = let h : 0 < 2 ^ i = pow_pos i in λ e. omega arith

abbrev pub lane_bits : ℕ → List ℕ
lane_bits b = bit_and b 1 ∷ bit_and b 2 ∷ bit_and b 4 ∷ bit_and b 8 ∷ bit_and b 16 ∷ bit_and b 32 ∷ bit_and b 64 ∷ bit_and b 128 ∷ []

abbrev pub eight_zeros : List ℕ
eight_zeros = 0 ∷ 0 ∷ 0 ∷ 0 ∷ 0 ∷ 0 ∷ 0 ∷ 0 ∷ []

flags_read : (b i : ℕ) → i < 8 → get_or (zip2 (λ x y. not (eqb x y)) (lane_bits b) eight_zeros) i false ≡ eqb (bit_at b i) 1
flags_read b = below_eight (λ i. get_or (zip2 (λ x y. not (eqb x y)) (lane_bits b) eight_zeros) i false ≡ eqb (bit_at b i) 1)
    (flag b 0) (flag b 1) (flag b 2) (flag b 3) (flag b 4) (flag b 5) (flag b 6) (flag b 7)

-- lanes chosen by the bits of a byte
pub chosen_eight : (b : ℕ) (new old : List ℕ) → length new ≡ 8 → length old ≡ 8 → (i : ℕ) → i < 8 →
    get_or (sel_l (map (top 63) (zip2 (λ x y. cond (not (eqb x y)) (2 ^ 64 - 1) 0) (lane_bits b) eight_zeros)) new old) i 0 ≡ cond (eqb (bit_at b i) 1) (get_or new i 0) (get_or old i 0)
chosen_eight b new old m n i l =
    ap (λ flags. get_or (sel_l {A = ℕ} flags new old) i 0) (tops_compared w64 (λ x y. not (eqb x y)) (lane_bits b) eight_zeros)
    ∙ get_or-sel_l (zip2 (λ x y. not (eqb x y)) (lane_bits b) eight_zeros) new old i 0 l (omega arith) (omega arith)
    ∙ ap (λ f. cond f (get_or new i 0) (get_or old i 0)) (flags_read b i l)

-- ranges of places
pub between : (low high i : ℕ) → low ≤ i → i < high → is_between low high i ≡ true
between low high i l h = grind (arith, nat_tests)

pub outside : (low high i : ℕ) → (i < low) ⊎ (high ≤ i) → is_between low high i ≡ false
outside low high i (inl l) = grind (arith, nat_tests)
outside low high i (inr h) = elim (leb_tells low i) [
  | inl t ↦ ap₂ (λ a b. a && b) t.0 (let e : ltb i high ≡ false = grind (arith, nat_tests) in e)
  | inr f ↦ ap (λ a. a && ltb i high) f.0
]

same_range : (low n i : ℕ) → i ≢ n → is_between low (n + 1) i ≡ is_between low n i
same_range low n i ne = ap (λ b. leb low i && b) (let e : ltb i (n + 1) ≡ ltb i n = one i n ne in e)
  where
    one : (i n : ℕ) → i ≢ n → ltb i (n + 1) ≡ ltb i n
    one i n ne = elim (cases_lt i n) [
      | inl l ↦ let a : ltb i (n + 1) ≡ true = grind (arith, nat_tests) in let b : ltb i n ≡ true = grind (arith, nat_tests) in a ∙ sym b
      | inr l ↦ let a : ltb i (n + 1) ≡ false = grind (arith, nat_tests) in let b : ltb i n ≡ false = grind (arith, nat_tests) in a ∙ sym b
    ]

-- nothing is written at first
pub writes_none : (low : ℕ) (value : ℕ → ℕ) (row : List Word) → WritesFrom low low value row row
writes_none low value row i = ap (λ t. cond t (value i) (word_in row i)) (sym (outside low low i (elim (cases_lt i low) [ inl l ↦ inl l | inr h ↦ inr h ])))

-- one word more
pub writes_more : (low n : ℕ) (value : ℕ → ℕ) (old row : List Word) (w : ℕ) → low ≤ n → n < length row → w ≡ value n → WritesFrom low n value old row → WritesFrom low (n + 1) value old (set row n (record { 0 = w }))
writes_more low n value old row w under inside e before i = elim (eqb_tells i n) [
  | inl here ↦ at here.1
  | inr there ↦ ap (λ (x : Word). x.0) (get_or-set_other row n i (record { 0 = w }) (record { 0 = 0 }) there.1) ∙ before i ∙ ap (λ t. cond t (value i) (word_in old i)) (sym (same_range low n i there.1))
]
  where
    at : i ≡ n → word_in (set row n (record { 0 = w })) i ≡ cond (is_between low (n + 1) i) (value i) (word_in old i)
    at h = ap (word_in (set row n (record { 0 = w }))) h ∙ ap (λ (x : Word). x.0) (get_or-set_same row n (record { 0 = w }) (record { 0 = 0 }) inside) ∙ e ∙ ap value (sym h)
        ∙ ap (λ t. cond t (value i) (word_in old i)) (sym (between low (n + 1) i (omega arith) (omega arith)))

-- a part after a part
same_test : (low mid high i : ℕ) → i < mid → i < high → is_between low mid i ≡ is_between low high i
same_test low mid high i l h = ap (λ b. leb low i && b) (let a : ltb i mid ≡ true = grind (arith, nat_tests) in let b : ltb i high ≡ true = grind (arith, nat_tests) in a ∙ sym b)

pub untouched : {X : Type 0} (low high : ℕ) (value old new : ℕ → X) → ((i : ℕ) → new i ≡ cond (is_between low high i) (value i) (old i)) → (i : ℕ) → (i < low) ⊎ (high ≤ i) → new i ≡ old i
untouched low high value old new w i o = w i ∙ ap (λ t. cond t (value i) (old i)) (outside low high i o)

pub touched : {X : Type 0} (low high : ℕ) (value old new : ℕ → X) → ((i : ℕ) → new i ≡ cond (is_between low high i) (value i) (old i)) → (i : ℕ) → low ≤ i → i < high → new i ≡ value i
touched low high value old new w i l h = w i ∙ ap (λ t. cond t (value i) (old i)) (between low high i l h)

pub joined : {X : Type 0} (low mid high : ℕ) (value value' a b c : ℕ → X) → low ≤ mid → mid ≤ high →
    ((i : ℕ) → b i ≡ cond (is_between low mid i) (value i) (a i)) → ((i : ℕ) → c i ≡ cond (is_between mid high i) (value' i) (b i)) →
    ((i : ℕ) → mid ≤ i → i < high → value' i ≡ value i) → (i : ℕ) → c i ≡ cond (is_between low high i) (value i) (a i)
joined low mid high value value' a b c lm mh first second same i = elim (cases_lt i mid) [
  | inl below ↦ untouched mid high value' b c second i (inl below) ∙ first i ∙ ap (λ t. cond t (value i) (a i)) (same_test low mid high i below (omega arith))
  | inr above ↦ elim (cases_lt i high) [
    | inl inside ↦ touched mid high value' b c second i above inside ∙ same i above inside ∙ ap (λ t. cond t (value i) (a i)) (sym (between low high i (omega arith) inside))
    | inr past ↦ untouched mid high value' b c second i (inr past) ∙ untouched low mid value a b first i (inr above) ∙ ap (λ t. cond t (value i) (a i)) (sym (outside low high i (inr past)))
  ]
]

-- the words of lanes that are on
pub joins : (low mid high : ℕ) (on : ℕ → Bool) (value value' : ℕ → ℕ) (a b c : List Word) → low ≤ mid → mid ≤ high → WritesOn low mid on value a b → WritesOn mid high on value' b c →
    ((i : ℕ) → mid ≤ i → i < high → value' i ≡ value i) → WritesOn low high on value a c
joins low mid high on value value' a b c lm mh first second same =
    joined low mid high (chosen on value a) (chosen on value' b) (word_in a) (word_in b) (word_in c) lm mh first second
    (λ i l h. ap₂ (λ v w. cond (on i) v w) (same i l h) (untouched low mid (chosen on value a) (word_in a) (word_in b) first i (inr l)))

-- the lanes of a mask
pub sets_more : (low mid high : ℕ) (mask : LaneMask) (words : List Word) (a b c : LaneMask) → low ≤ mid → mid ≤ high → SetsOn low mid mask words a b → SetsOn mid high mask words b c → SetsOn low high mask words a c
sets_more low mid high mask words a b c lm mh first second =
    joined low mid high (picked mask words a) (picked mask words b) (is_on a) (is_on b) (is_on c) lm mh first second
    (λ i l h. ap (λ t. cond (is_on mask i) (not (eqb (word_in words i) 0)) t) (untouched low mid (picked mask words a) (is_on a) (is_on b) first i (inr l)))

-- all lanes of a mask
pub writes_all : (n : ℕ) (on : ℕ → Bool) (value : ℕ → ℕ) (old new : List Word) → ((i : ℕ) → n ≤ i → on i ≡ false) → WritesOn 0 n on value old new → Writes on value old new
writes_all n on value old new off w i = elim (cases_lt i n) [
  | inl inside ↦ touched 0 n (chosen on value old) (word_in old) (word_in new) w i (omega arith) inside
  | inr past ↦ untouched 0 n (chosen on value old) (word_in old) (word_in new) w i (inr past) ∙ ap (λ t. cond t (value i) (word_in old i)) (sym (off i past))
]

-- only what is written in lanes that are on counts
pub bool_cases : (b : Bool) → (b ≡ true) ⊎ (b ≡ false)
bool_cases true = inl refl
bool_cases false = inr refl

pub writes_same : (on : ℕ → Bool) (value value' : ℕ → ℕ) (old new : List Word) → ((i : ℕ) → on i ≡ true → value i ≡ value' i) → Writes on value old new → Writes on value' old new
writes_same on value value' old new same w i = elim (bool_cases (on i)) [
  | inl on_it ↦ w i ∙ ap (λ v. cond (on i) v (word_in old i)) (same i on_it)
  | inr off_it ↦ w i ∙ ap (λ t. cond t (value i) (word_in old i)) off_it ∙ ap (λ t. cond t (value' i) (word_in old i)) (sym off_it)
]

-- lanes marked one after the other
pub marks_more : (flag : ℕ → Bool) (n : ℕ) (old new : LaneMask) → Marks n (flag n) old new → ((j : ℕ) → is_on old j ≡ (ltb j n && flag j)) → (j : ℕ) → is_on new j ≡ (ltb j (n + 1) && flag j)
marks_more flag n old new marks before j = marks j ∙ ap (λ b. b || (eqb j n && flag n)) (before j) ∙ elim (eqb_tells j n) [
  | inl here ↦ ap₂ (λ s t. (s && flag j) || (t && flag n)) (let s : ltb j n ≡ false = grind (arith, nat_tests, here.1) in s) here.0 ∙ ap flag (sym here.1)
      ∙ ap (λ s. s && flag j) (let s : ltb j (n + 1) ≡ true = grind (arith, nat_tests, here.1) in sym s)
  | inr there ↦ ap (λ t. (ltb j n && flag j) || (t && flag n)) there.0 ∙ or_false (ltb j n && flag j) ∙ ap (λ s. s && flag j) (same_below j n there.1)
]
  where
    or_false : (b : Bool) → (b || false) ≡ b
    or_false true = refl
    or_false false = refl

    same_below : (j n : ℕ) → j ≢ n → ltb j n ≡ ltb j (n + 1)
    same_below j n ne = elim (cases_lt j n) [
      | inl l ↦ let a : ltb j (n + 1) ≡ true = grind (arith, nat_tests) in let b : ltb j n ≡ true = grind (arith, nat_tests) in b ∙ sym a
      | inr l ↦ let a : ltb j (n + 1) ≡ false = grind (arith, nat_tests) in let b : ltb j n ≡ false = grind (arith, nat_tests) in b ∙ sym a
    ]

pub marks_all : (on flag : ℕ → Bool) (n : ℕ) (mask : LaneMask) → ((i : ℕ) → n ≤ i → on i ≡ false) → ((j : ℕ) → is_on mask j ≡ (ltb j n && (on j && flag j))) → (j : ℕ) → is_on mask j ≡ (on j && flag j)
marks_all on flag n mask off marks j = marks j ∙ elim (cases_lt j n) [
  | inl l ↦ ap (λ s. s && (on j && flag j)) (let s : ltb j n ≡ true = grind (arith, nat_tests) in s)
  | inr h ↦ ap (λ s. ltb j n && (s && flag j)) (off j h) ∙ and_false (ltb j n) ∙ ap (λ s. s && flag j) (sym (off j h))
]
  where
    and_false : (b : Bool) → (b && false) ≡ false
    and_false true = refl
    and_false false = refl

-- nothing is set at first, and in the end all lanes that are on
pub sets_none : (mask : LaneMask) (words : List Word) (m : LaneMask) → SetsOn 0 0 mask words m m
sets_none mask words m i = ap (λ t. cond t (picked mask words m i) (is_on m i)) (sym (outside 0 0 i (inr (omega arith))))

pub sets_all : (n : ℕ) (mask : LaneMask) (words : List Word) (old new : LaneMask) → ((i : ℕ) → n ≤ i → is_on mask i ≡ false) → SetsOn 0 n mask words old new → (i : ℕ) → is_on new i ≡ picked mask words old i
sets_all n mask words old new off w i = elim (cases_lt i n) [
  | inl inside ↦ touched 0 n (picked mask words old) (is_on old) (is_on new) w i (omega arith) inside
  | inr past ↦ untouched 0 n (picked mask words old) (is_on old) (is_on new) w i (inr past) ∙ ap (λ t. cond t (not (eqb (word_in words i) 0)) (is_on old i)) (sym (off i past))
]
