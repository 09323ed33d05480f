-- Rows in one list of words, written a part at a time.
use Rattle.std.proofs.Common.{◌≡◌, ℕ, ◌+◌, ◌-◌, ◌<◌, ◌≤◌, inl, inr, List, length, set, Bool, true, cond, ap, ap₂, sym, subst, ◌∙◌, arith}
use Rattle.std.proofs.lemmas.Bool.{cases_lt}
use Rattle.vk_types.specs.declared.types.Word.{Word}
use Rattle.vk_lanes.specs.Kernels.{AreRows, WritesRow}
use Rattle.vk_lanes.specs.Words.{word_in}
use Rattle.vk_lanes.specs.Inner.Blocks.{WritesFrom, WritesOn, chosen}
use Rattle.vk_lanes.proofs.Written.{between, bool_cases, joined, outside, touched, untouched, writes_more, writes_none}

-- where the first n lanes of a row are written, the lanes of an operand from n on are as they were
pub operand_same : (lanes a d n : ℕ) (value : ℕ → ℕ) (old cur : List Word) → AreRows lanes a d → n ≤ lanes → WritesFrom d (d + n) value old cur → (i : ℕ) → n ≤ i → i < lanes →
    word_in cur (a + i) ≡ word_in old (a + i)
operand_same lanes a d n value old cur rows le w i h l = untouched d (d + n) value (word_in old) (word_in cur) w (a + i) (elim rows [
  | inl same ↦ inr (omega arith)
  | inr apart ↦ elim apart [ inl before ↦ inl (omega arith) | inr behind ↦ inr (omega arith) ]
])

-- and so is what is made of two operands and of the row itself
pub same_operands : (f : ℕ → ℕ → ℕ → ℕ) (lanes a b d n : ℕ) (value : ℕ → ℕ) (old cur : List Word) → AreRows lanes a d → AreRows lanes b d → n ≤ lanes → WritesFrom d (d + n) value old cur → (i : ℕ) → n ≤ i → i < lanes →
    f (word_in cur (a + i)) (word_in cur (b + i)) (word_in cur (d + i)) ≡ f (word_in old (a + i)) (word_in old (b + i)) (word_in old (d + i))
same_operands f lanes a b d n value old cur left right le w i h l =
    ap₂ (λ x y. f x y (word_in cur (d + i))) (operand_same lanes a d n value old cur left le w i h l) (operand_same lanes b d n value old cur right le w i h l)
    ∙ ap (f (word_in old (a + i)) (word_in old (b + i))) (untouched d (d + n) value (word_in old) (word_in cur) w (d + i) (inr (omega arith)))

-- more lanes of a row, whose values come from words that are as they were
pub joins_row : (d n m : ℕ) (on : ℕ → Bool) (value value' : ℕ → ℕ) (a b c : List Word) → n ≤ m → WritesOn d (d + n) (λ j. on (j - d)) (λ j. value (j - d)) a b →
    WritesOn (d + n) (d + m) (λ j. on (j - d)) (λ j. value' (j - d)) b c → ((i : ℕ) → n ≤ i → i < m → value' i ≡ value i) → WritesOn d (d + m) (λ j. on (j - d)) (λ j. value (j - d)) a c
joins_row d n m on value value' a b c le first second same =
    joined d (d + n) (d + m) (chosen (λ j. on (j - d)) (λ j. value (j - d)) a) (chosen (λ j. on (j - d)) (λ j. value' (j - d)) b) (word_in a) (word_in b) (word_in c) (omega arith) (omega arith) first second
    (λ j l h. ap₂ (λ v w. cond (on (j - d)) v w) (same (j - d) (omega arith) (omega arith)) (untouched d (d + n) (chosen (λ j. on (j - d)) (λ j. value (j - d)) a) (word_in a) (word_in b) first j (inr l)))

pub row_written : (lanes d : ℕ) (on : ℕ → Bool) (value : ℕ → ℕ) (old new : List Word) → WritesOn d (d + lanes) (λ j. on (j - d)) (λ j. value (j - d)) old new → WritesRow lanes d on value old new
row_written lanes d on value old new w = record {
  row = λ i l. touched d (d + lanes) (chosen (λ j. on (j - d)) (λ j. value (j - d)) old) (word_in old) (word_in new) w (d + i) (omega arith) (omega arith)
      ∙ ap (λ k. cond (on k) (value k) (word_in old (d + i))) (let e : d + i - d ≡ i = omega arith in e);
  below = λ k l. untouched d (d + lanes) (chosen (λ j. on (j - d)) (λ j. value (j - d)) old) (word_in old) (word_in new) w k (inl l);
  above = λ k l. untouched d (d + lanes) (chosen (λ j. on (j - d)) (λ j. value (j - d)) old) (word_in old) (word_in new) w k (inr l);
}

-- only what is written in lanes that are on counts
pub row_same : (lanes d : ℕ) (on : ℕ → Bool) (value value' : ℕ → ℕ) (old new : List Word) → ((i : ℕ) → on i ≡ true → value i ≡ value' i) → WritesRow lanes d on value old new → WritesRow lanes d on value' old new
row_same lanes d on value value' old new same w = record {
  row = λ i l. elim (bool_cases (on i)) [
    | inl on_it ↦ w.row i l ∙ ap (λ v. cond (on i) v (word_in old (d + i))) (same i on_it)
    | inr off_it ↦ w.row i l ∙ ap (λ t. cond t (value i) (word_in old (d + i))) off_it ∙ ap (λ t. cond t (value' i) (word_in old (d + i))) (sym off_it)
  ];
  below = w.below;
  above = w.above;
}

-- the same places with the same values
pub written_as : (low high high' : ℕ) (value value' : ℕ → ℕ) (old new : List Word) → high ≡ high' → ((j : ℕ) → low ≤ j → j < high → value j ≡ value' j) → WritesFrom low high value old new → WritesFrom low high' value' old new
written_as low high high' value value' old new e same w = subst (λ h. WritesFrom low h value' old new) e inside
  where
    inside : WritesFrom low high value' old new
    inside j = elim (cases_lt j low) [
      | inl before ↦ untouched low high value (word_in old) (word_in new) w j (inl before) ∙ ap (λ t. cond t (value' j) (word_in old j)) (sym (outside low high j (inl before)))
      | inr from ↦ elim (cases_lt j high) [
        | inl below ↦ touched low high value (word_in old) (word_in new) w j from below ∙ same j from below ∙ ap (λ t. cond t (value' j) (word_in old j)) (sym (between low high j from below))
        | inr past ↦ untouched low high value (word_in old) (word_in new) w j (inr past) ∙ ap (λ t. cond t (value' j) (word_in old j)) (sym (outside low high j (inr past)))
      ]
    ]

-- one word
pub one_place : (p high : ℕ) (value : ℕ → ℕ) (old : List Word) (w : Word) → p + 1 ≡ high → p < length old → w.0 ≡ value p → WritesFrom p high value old (set old p w)
one_place p high value old w e inside same = subst (λ h. WritesFrom p h value old (set old p w)) e (writes_more p p value old old w.0 (omega arith) inside same (writes_none p value old))

-- eight words of a row, where the mask is on what is computed of two others
pub eight_places : (mask : ℕ → Bool) (f : ℕ → ℕ → ℕ) (rows : List Word) (x y o ws : ℕ → ℕ) (a b d at : ℕ) →
    ((i : ℕ) → i < 8 → x i ≡ word_in rows (a + at + i)) → ((i : ℕ) → i < 8 → y i ≡ word_in rows (b + at + i)) → ((i : ℕ) → i < 8 → o i ≡ word_in rows (d + at + i)) →
    ((i : ℕ) → i < 8 → ws i ≡ cond (mask (at + i)) (f (x i) (y i)) (o i)) → (j : ℕ) → d + at ≤ j → j < d + at + 8 →
    ws (j - (d + at)) ≡ chosen (λ j. mask (j - d)) (λ j. f (word_in rows (a + (j - d))) (word_in rows (b + (j - d)))) rows j
eight_places mask f rows x y o ws a b d at ex ey eo ews j l h =
    let i : ℕ = j - (d + at) in
    let inside : i < 8 = omega arith in
    ews i inside
    ∙ ap₂ (λ m v. cond m v (o i)) (ap mask (let e : at + i ≡ j - d = omega arith in e))
    (ap₂ f (ex i inside ∙ ap (word_in rows) (let e : a + at + i ≡ a + (j - d) = omega arith in e)) (ey i inside ∙ ap (word_in rows) (let e : b + at + i ≡ b + (j - d) = omega arith in e)))
    ∙ ap (λ v. cond (mask (j - d)) (f (word_in rows (a + (j - d))) (word_in rows (b + (j - d)))) v) (eo i inside ∙ ap (word_in rows) (let e : d + at + i ≡ j = omega arith in e))
