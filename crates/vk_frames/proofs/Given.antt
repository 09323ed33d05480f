-- A register written by a kernel.
use Rattle.std.proofs.Common.{◌≡◌, ◌≢◌, ℕ, ◌+◌, ◌*◌, ◌<◌, ◌≤◌, List, cond, refl, ap, ap₂, arith, Option, sym, ◌∙◌, subst, inl, inr, true, false, Bool, ◌&&◌, not, nat_lt, ◌==◌}
use Rattle.std.proofs.Math.Nat.{mul-le-mul_left}
use Rattle.std.proofs.lemmas.Bool.{cases_eq, cases_lt, eq-eqb, eqb-true, lt-ltb, ltb-true, ne_eqb}
use Rattle.vk_types.specs.declared.types.Word.{Word}
use Rattle.vk_types.specs.declared.types.Stop.{Stop}
use Rattle.vk_types.specs.declared.types.Ty.{Ty}
use Rattle.vk_types.specs.Numbers.{IsCanonical}
use Rattle.vk_lanes.specs.declared.mask.LaneMask.{LaneMask}
use Rattle.vk_lanes.specs.Kernels.{AreRows, WritesRow}
use Rattle.vk_lanes.specs.Masks.{is_on, lane_count}
use Rattle.vk_lanes.specs.Words.{AreTyped, word_in}
use Rattle.vk_lanes.proofs.Bits.{inside}
use Rattle.vk_object.specs.Lane.{LaneState, with_mask, with_reg}
use Rattle.vk_frames.specs.Each.{each}
use Rattle.vk_frames.specs.Rows.{lane_of, pattern_at, place_of}
use Rattle.vk_frames.specs.Written.{gives_row}
use Rattle.vk_frames.proofs.Writes.{and_off, mask_kept, mask_written, off_and, reg_kept, reg_written, same_lane, same_lanes}

-- the rows of two registers are one, or have no place in common
pub rows_apart : (lanes a d p q : ℕ) → p ≡ a * lanes → q ≡ d * lanes → AreRows lanes p q
rows_apart lanes a d p q e f = elim (cases_lt a d) [
  | inl before ↦ let g : lanes * (a + 1) ≤ lanes * d = mul-le-mul_left lanes (omega (arith, before)) in inr (inl (omega (arith, e, f, g)))
  | inr from ↦ elim (cases_eq a d) [
    | inl same ↦ inl (e ∙ ap (λ n. n * lanes) same ∙ sym f)
    | inr differ ↦ let g : lanes * (d + 1) ≤ lanes * a = mul-le-mul_left lanes (omega (arith, from, differ)) in inr (inr (omega (arith, e, f, g)))
  ]
]

-- a register in a lane of the frame
pub reg_word : (lanes registers : ℕ) (words : List Word) (stops : List (Option Stop)) (r j : ℕ) → r < registers → j < lanes → (lane_of lanes registers words stops j).reg r ≡ word_in words (place_of lanes r j)
reg_word lanes registers words stops r j h k = ap₂ (λ a b. cond (a && b) (pattern_at words (place_of lanes r j)) 0) (lt-ltb j lanes k) (lt-ltb r registers h)

module _ (lanes registers d : ℕ) (on : ℕ → Bool) (value : ℕ → ℕ) (old new : List Word) (stops : List (Option Stop)) (w : WritesRow lanes (d * lanes) on value old new) where
  -- what is read of row q in lane j
  read : (q j : ℕ) → j < lanes → word_in new (place_of lanes q j) ≡ cond ((q == d) && on j) (value j) (word_in old (place_of lanes q j))
  read q j l = elim (cases_eq q d) [
    | inl same ↦ subst (λ n. word_in new (place_of lanes n j) ≡ cond (on j) (value j) (word_in old (place_of lanes n j))) (sym same) (w.row j l)
        ∙ sym (ap (λ b. cond (b && on j) (value j) (word_in old (place_of lanes q j))) (eq-eqb q d same))
    | inr differ ↦ kept differ ∙ sym (ap (λ b. cond (b && on j) (value j) (word_in old (place_of lanes q j))) (ne_eqb q d differ))
  ]
    where
      kept : q ≢ d → word_in new (place_of lanes q j) ≡ word_in old (place_of lanes q j)
      kept differ = elim (cases_lt q d) [
        | inl before ↦ let g : lanes * (q + 1) ≤ lanes * d = mul-le-mul_left lanes (omega (arith, before)) in w.below (place_of lanes q j) (omega (arith, g, l))
        | inr from ↦ let g : lanes * (d + 1) ≤ lanes * q = mul-le-mul_left lanes (omega (arith, from, differ)) in w.above (place_of lanes q j) (omega (arith, g))
      ]

  abbrev before : ℕ → LaneState
  before = lane_of lanes registers old stops

  abbrev after : ℕ → LaneState
  after = lane_of lanes registers new stops

  mask : d < registers → (j m : ℕ) → (after j).on m ≡ (before j).on m
  mask below j m = mask_kept (value j) (word_in old (place_of lanes (registers + m) j)) (word_in new (place_of lanes (registers + m) j)) (nat_lt j lanes) ((registers + m) == d) (on j)
      (λ a. read (registers + m) j (ltb-true j lanes a))
      (λ a. off_and ((registers + m) == d) (on j) (ne_eqb (registers + m) d (λ e. omega (arith, e, below))))

  lane_given : d < registers → ((j : ℕ) → on j ≡ true → j < lanes) → (j : ℕ) (o : Bool) → on j ≡ o → after j ≡ cond o (with_reg (before j) d (value j)) (before j)
  lane_given below inside j true e = same_lane (after j) (with_reg (before j) d (value j))
      (λ q. reg_written (value j) (word_in old (place_of lanes q j)) (word_in new (place_of lanes q j)) (nat_lt j lanes) (nat_lt q registers) (q == d) (on j)
      (λ a. read q j (ltb-true j lanes a)) (lt-ltb j lanes (inside j e)) e (λ t. lt-ltb q registers (omega (arith, below, eqb-true q d t))))
      (mask below j) refl
  lane_given below inside j false e = same_lane (after j) (before j)
      (λ q. reg_kept (value j) (word_in old (place_of lanes q j)) (word_in new (place_of lanes q j)) (nat_lt j lanes) (nat_lt q registers) (q == d) (on j)
      (λ a. read q j (ltb-true j lanes a)) (λ a b. and_off (q == d) (on j) e))
      (mask below j) refl

  -- a row that a kernel wrote is a register that lanes were given
  pub row_given : d < registers → ((j : ℕ) → on j ≡ true → j < lanes) → (word : ℕ → LaneState → ℕ) → ((j : ℕ) → on j ≡ true → value j ≡ word j (before j)) → after ≡ gives_row on d word before
  row_given below inside word same = same_lanes after (gives_row on d word before) (λ j. lane_given below inside j (on j) refl ∙ told j (on j) refl)
    where
      told : (j : ℕ) (o : Bool) → on j ≡ o → cond o (with_reg (before j) d (value j)) (before j) ≡ cond o (with_reg (before j) d (word j (before j))) (before j)
      told j true e = ap (with_reg (before j) d) (same j e)
      told j false e = refl

-- ---- a mask written whole

-- off in each lane, then on in some
pub row_twice : (lanes p : ℕ) (first on : ℕ → Bool) (old mid new : List Word) → ((j : ℕ) → first j ≡ nat_lt j lanes) → WritesRow lanes p first (λ j. 0) old mid → WritesRow lanes p on (λ j. 1) mid new →
    WritesRow lanes p (λ j. nat_lt j lanes) (λ j. cond (on j) 1 0) old new
row_twice lanes p first on old mid new all u w = record {
  row = λ j l. w.row j l
      ∙ (ap (λ n. cond (on j) 1 n) (u.row j l ∙ ap (λ b. cond b 0 (word_in old (p + j))) (all j ∙ lt-ltb j lanes l))
      ∙ ap (λ b. cond b (cond (on j) 1 0) (word_in old (p + j))) (sym (lt-ltb j lanes l)));
  below = λ k h. w.below k h ∙ u.below k h;
  above = λ k h. w.above k h ∙ u.above k h;
}

bit_on : (on : Bool) → not (cond on 1 0 == 0) ≡ on
bit_on true = refl
bit_on false = refl

module _ (lanes registers m : ℕ) (on : ℕ → Bool) (old new : List Word) (stops : List (Option Stop)) (w : WritesRow lanes ((registers + m) * lanes) (λ j. nat_lt j lanes) (λ j. cond (on j) 1 0) old new) where
  abbrev bit : ℕ → ℕ
  bit j = cond (on j) 1 0

  abbrev past : ℕ → LaneState
  past = lane_of lanes registers old stops

  abbrev now : ℕ → LaneState
  now = lane_of lanes registers new stops

  seen : (q j : ℕ) → nat_lt j lanes ≡ true → word_in new (place_of lanes q j) ≡ cond ((q == (registers + m)) && nat_lt j lanes) (bit j) (word_in old (place_of lanes q j))
  seen q j a = read lanes registers (registers + m) (λ j. nat_lt j lanes) bit old new stops w q j (ltb-true j lanes a)

  same_reg : (j q : ℕ) → (now j).reg q ≡ (past j).reg q
  same_reg j q = reg_kept (bit j) (word_in old (place_of lanes q j)) (word_in new (place_of lanes q j)) (nat_lt j lanes) (nat_lt q registers) (q == (registers + m)) (nat_lt j lanes) (seen q j)
      (λ a b. off_and (q == (registers + m)) (nat_lt j lanes) (ne_eqb q (registers + m) (λ e. omega (arith, e, ltb-true q registers b))))

  same_test : (k : ℕ) → ((registers + k) == (registers + m)) ≡ (k == m)
  same_test k = elim (cases_eq k m) as (λ _. ((registers + k) == (registers + m)) ≡ (k == m)) [
    | inl s ↦ eq-eqb (registers + k) (registers + m) (omega (arith, s)) ∙ sym (eq-eqb k m s)
    | inr d ↦ ne_eqb (registers + k) (registers + m) (λ e. d (omega (arith, e))) ∙ sym (ne_eqb k m d)
  ]

  lane_set : (j : ℕ) (inside : Bool) → nat_lt j lanes ≡ inside → now j ≡ cond inside (with_mask (past j) m (on j)) (past j)
  lane_set j true e = same_lane (now j) (with_mask (past j) m (on j)) (same_reg j)
      (λ k. subst (λ b. (now j).on k ≡ cond b (on j) ((past j).on k)) (same_test k)
      (mask_written (bit j) (word_in old (place_of lanes (registers + k) j)) (word_in new (place_of lanes (registers + k) j)) (nat_lt j lanes) ((registers + k) == (registers + m)) (nat_lt j lanes) (on j)
      (seen (registers + k) j) e e (bit_on (on j)))) refl
  lane_set j false e = same_lane (now j) (past j) (same_reg j)
      (λ k. mask_kept (bit j) (word_in old (place_of lanes (registers + k) j)) (word_in new (place_of lanes (registers + k) j)) (nat_lt j lanes) ((registers + k) == (registers + m)) (nat_lt j lanes)
      (seen (registers + k) j) (λ a. and_off ((registers + k) == (registers + m)) (nat_lt j lanes) e)) refl

  pub mask_given : now ≡ each lanes (λ j l. with_mask l m (on j)) past
  mask_given = same_lanes now (each lanes (λ j l. with_mask l m (on j)) past) (λ j. lane_set j (nat_lt j lanes) refl)

pub mask_filled : (lanes registers m p : ℕ) (all on : LaneMask) (old mid new : List Word) (stops : List (Option Stop)) → lane_count all ≡ lanes → lane_count on ≡ lanes → p ≡ (registers + m) * lanes → ((j : ℕ) → is_on all j ≡ nat_lt j lanes) →
    WritesRow (lane_count all) p (is_on all) (λ j. 0) old mid → WritesRow (lane_count on) p (is_on on) (λ j. 1) mid new →
    lane_of lanes registers new stops ≡ each lanes (λ j l. with_mask l m (is_on on j)) (lane_of lanes registers old stops)
mask_filled lanes registers m p all on old mid new stops ca co e h u w = mask_given lanes registers m (is_on on) old new stops
    (subst (λ q. WritesRow lanes q (λ j. nat_lt j lanes) (λ j. cond (is_on on j) 1 0) old new) e
    (row_twice lanes p (is_on all) (is_on on) old mid new h
    (subst (λ n. WritesRow n p (is_on all) (λ j. 0) old mid) ca u)
    (subst (λ n. WritesRow n p (is_on on) (λ j. 1) mid new) co w)))

-- ---- rows of registers, by the places of their first words

module _ (lanes registers : ℕ) (live : LaneMask) (count : lane_count live ≡ lanes) (words : List Word) (stops : List (Option Stop)) where
  pub lane_inside : (j : ℕ) → is_on live j ≡ true → j < lanes
  lane_inside j h = subst (λ n. j < n) count (inside live j h)

  -- a word of a row is that of the register, in a lane that is on
  pub on_word : (r p j : ℕ) → r < registers → p ≡ r * lanes → is_on live j ≡ true → word_in words (p + j) ≡ (lane_of lanes registers words stops j).reg r
  on_word r p j below e h = ap (λ n. word_in words (n + j)) e ∙ sym (reg_word lanes registers words stops r j below (lane_inside j h))

  pub typed_row : (t : Ty) (r p : ℕ) → r < registers → p ≡ r * lanes → AreTyped t (is_on live) (λ j. (lane_of lanes registers words stops j).reg r) → AreTyped t (is_on live) (λ i. word_in words (p + i))
  typed_row t r p below e h j on = subst (IsCanonical t) (sym (on_word r p j below e on)) (h j on)

  -- a test of the word counts only where a lane is on
  pub tested_row : (test : ℕ → Bool) (r p j : ℕ) → r < registers → p ≡ r * lanes → (is_on live j && test (word_in words (p + j))) ≡ (is_on live j && test ((lane_of lanes registers words stops j).reg r))
  tested_row test r p j below e = by (is_on live j) refl
    where
      by : (o : Bool) → is_on live j ≡ o → (o && test (word_in words (p + j))) ≡ (o && test ((lane_of lanes registers words stops j).reg r))
      by true h = ap test (on_word r p j below e h)
      by false h = refl

  row_at : (d p : ℕ) (value : ℕ → ℕ) (new : List Word) → p ≡ d * lanes → WritesRow (lane_count live) p (is_on live) value words new → WritesRow lanes (d * lanes) (is_on live) value words new
  row_at d p value new e w = subst (λ n. WritesRow n (d * lanes) (is_on live) value words new) count (subst (λ q. WritesRow (lane_count live) q (is_on live) value words new) e w)

  -- a row that gets what depends on the lane alone
  pub row_gets : (value : ℕ → ℕ) (d p : ℕ) (new : List Word) → d < registers → p ≡ d * lanes → WritesRow (lane_count live) p (is_on live) value words new →
      lane_of lanes registers new stops ≡ gives_row (is_on live) d (λ j l. value j) (lane_of lanes registers words stops)
  row_gets value d p new h e w = row_given lanes registers d (is_on live) value words new stops (row_at d p value new e w) h lane_inside (λ j l. value j) (λ j on. refl)

  -- what a kernel makes of two rows and of the row that it writes
  pub row_of : (f : ℕ → ℕ → ℕ → ℕ) (a b d pa pb pd : ℕ) (new : List Word) → a < registers → b < registers → d < registers → pa ≡ a * lanes → pb ≡ b * lanes → pd ≡ d * lanes →
      WritesRow (lane_count live) pd (is_on live) (λ i. f (word_in words (pa + i)) (word_in words (pb + i)) (word_in words (pd + i))) words new →
      lane_of lanes registers new stops ≡ gives_row (is_on live) d (λ j l. f (l.reg a) (l.reg b) (l.reg d)) (lane_of lanes registers words stops)
  row_of f a b d pa pb pd new ha hb hd ea eb ed w =
      let value : ℕ → ℕ = λ i. f (word_in words (pa + i)) (word_in words (pb + i)) (word_in words (pd + i)) in
      row_given lanes registers d (is_on live) value words new stops (row_at d pd value new ed w) hd lane_inside (λ j l. f (l.reg a) (l.reg b) (l.reg d))
      (λ j h. ap₂ (λ x y. f x y (word_in words (pd + j))) (on_word a pa j ha ea h) (on_word b pb j hb eb h)
      ∙ ap (f ((lane_of lanes registers words stops j).reg a) ((lane_of lanes registers words stops j).reg b)) (on_word d pd j hd ed h))
