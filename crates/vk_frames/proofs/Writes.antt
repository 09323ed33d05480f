-- Lanes after a word of a frame was written.
use Rattle.std.proofs.Common.{◌≡◌, ◌≢◌, ℕ, zero, suc, ◌+◌, ◌*◌, ◌<◌, ◌≤◌, List, length, cond, refl, ap, arith, None, Option, replicate, sym, ◌∙◌, subst, inl, inr, true, false, Bool, ◌&&◌, not, ◌⊎◌, nat_lt, is_none, slice_index_or, ◌==◌}
use Rattle.std.proofs.Math.ListN.{set}
use Rattle.std.proofs.lemmas.List.{get_or-set_same, get_or-set_other}
use Rattle.std.proofs.lemmas.Bool.{cases_eq, cases_lt, eq-eqb, eqb-true, false≢true, le-ltb, lt-ltb, ltb-true, ne_eqb}
use Rattle.std.proofs.lemmas.Bool.Decides.{nat_tests}
use Rattle.std.proofs.Math.Nat.{mul-le-mul_left}
use Rattle.vk_types.specs.declared.types.Word.{Word}
use Rattle.vk_types.specs.declared.types.Stop.{Stop}
use Rattle.vk_object.specs.Lane.{LaneState, with_mask, with_reg}
use Rattle.vk_object.specs.Machine.{put}
use Rattle.vk_frames.specs.Each.{each}
use Rattle.vk_frames.specs.Rows.{lane_of, no_lanes, pattern_at, place_of}

-- ---- lanes as functions

pub put_same : (f : ℕ → LaneState) (j : ℕ) (l : LaneState) → put f j l j ≡ l
put_same f j l = ap (λ b. cond b l (f j)) (eq-eqb j j refl)

pub put_other : (f : ℕ → LaneState) (j : ℕ) (l : LaneState) (i : ℕ) → i ≢ j → put f j l i ≡ f i
put_other f j l i d = grind (arith, nat_tests, d)

pub same_lane : (a b : LaneState) → ((r : ℕ) → a.reg r ≡ b.reg r) → ((m : ℕ) → a.on m ≡ b.on m) → a.stop ≡ b.stop → a ≡ b
same_lane a b f g h = λ i. record { reg = λ r. f r i; on = λ m. g m i; stop = h i }

pub same_lanes : (f g : ℕ → LaneState) → ((j : ℕ) → f j ≡ g j) → f ≡ g
same_lanes f g h = λ i j. h j i

-- two frames that differ in lane j alone
pub one_lane : (f g : ℕ → LaneState) (j : ℕ) (l : LaneState) → g j ≡ l → ((i : ℕ) → i ≢ j → g i ≡ f i) → g ≡ put f j l
one_lane f g j l h o = same_lanes g (put f j l) at
  where
    at : (i : ℕ) → g i ≡ put f j l i
    at i = elim (cases_eq i j) as (λ _. g i ≡ put f j l i) [
      | inl s ↦ subst (λ n. g n ≡ put f j l n) (sym s) (h ∙ sym (put_same f j l))
      | inr d ↦ o i d ∙ sym (put_other f j l i d)
    ]

pub put_self : (f : ℕ → LaneState) (j : ℕ) → put f j (f j) ≡ f
put_self f j = same_lanes (put f j (f j)) f at
  where
    at : (i : ℕ) → put f j (f j) i ≡ f i
    at i = elim (cases_eq i j) as (λ _. put f j (f j) i ≡ f i) [
      | inl s ↦ subst (λ n. put f j (f j) n ≡ f n) (sym s) (put_same f j (f j))
      | inr d ↦ put_other f j (f j) i d
    ]

-- one lane more of what is done in each
pub each_more : (n : ℕ) (f : ℕ → LaneState → LaneState) (l : ℕ → LaneState) → put (each n f l) n (f n (each n f l n)) ≡ each (n + 1) f l
each_more n f l = sym (one_lane (each n f l) (each (n + 1) f l) n (f n (each n f l n)) here there)
  where
    here : each (n + 1) f l n ≡ f n (each n f l n)
    here = ap (λ b. cond b (f n (l n)) (l n)) (lt-ltb n (n + 1) (omega arith)) ∙ ap (λ b. f n (cond b (f n (l n)) (l n))) (sym (le-ltb n n (omega arith)))

    there : (i : ℕ) → i ≢ n → each (n + 1) f l i ≡ each n f l i
    there i d = ap (λ b. cond b (f i (l i)) (l i)) (same (cases_lt i n))
      where
        same : (i < n) ⊎ (n ≤ i) → nat_lt i (n + 1) ≡ nat_lt i n
        same (inl h) = lt-ltb i (n + 1) (omega (arith, h)) ∙ sym (lt-ltb i n h)
        same (inr h) = le-ltb i (n + 1) (omega (arith, h, d)) ∙ sym (le-ltb i n h)

pub each_step : (n : ℕ) (f : ℕ → LaneState → LaneState) (before now next : ℕ → LaneState) → now ≡ each n f before → next ≡ put now n (f n (now n)) → next ≡ each (n + 1) f before
each_step n f before now next e h = h ∙ (ap (λ (g : ℕ → LaneState). put g n (f n (g n))) e ∙ each_more n f before)

pub each_none : (f : ℕ → LaneState → LaneState) (l : ℕ → LaneState) → each 0 f l ≡ l
each_none f l = same_lanes (each 0 f l) l (λ j. ap (λ b. cond b (f j (l j)) (l j)) (le-ltb j 0 (omega arith)))

-- ---- places

pub inside : (r n lanes j : ℕ) → r < n → j < lanes → r * lanes + j < n * lanes
inside r n lanes j h k = let e : lanes * (r + 1) ≤ lanes * n = mul-le-mul_left lanes (omega (arith, h)) in omega (arith, e, k)

-- two places in lanes are the same only for the same row
pub apart : (r q lanes i j : ℕ) → i < lanes → j < lanes → q * lanes + i ≡ r * lanes + j → q ≡ r
apart r q lanes i j h k e = elim (cases_eq q r) as (λ _. q ≡ r) [
  | inl s ↦ s
  | inr d ↦ absurd (differ (either q r d))
]
  where
    either : (a b : ℕ) → a ≢ b → (a + 1 ≤ b) ⊎ (b + 1 ≤ a)
    either a b d = elim (cases_lt a b) as (λ _. (a + 1 ≤ b) ⊎ (b + 1 ≤ a)) [ inl s ↦ inl (omega (arith, s)) | inr s ↦ inr (omega (arith, s, d)) ]

    differ : (q + 1 ≤ r) ⊎ (r + 1 ≤ q) → ⊥
    differ (inl s) = let f : lanes * (q + 1) ≤ lanes * r = mul-le-mul_left lanes s in omega (arith, e, f, h, k)
    differ (inr s) = let f : lanes * (r + 1) ≤ lanes * q = mul-le-mul_left lanes s in omega (arith, e, f, h, k)

pub pattern_set : (words : List Word) (w : Word) (d k : ℕ) → d < length words → pattern_at (set words d w) k ≡ cond (k == d) w.0 (pattern_at words k)
pattern_set words w d k h = grind (arith, nat_tests, get_or-set_same {A = Word}, get_or-set_other {A = Word})

apart_lane : (q r lanes i j : ℕ) → q ≡ r → q * lanes + i ≡ r * lanes + j → i ≡ j
apart_lane q r lanes i j s e = let f : q * lanes ≡ r * lanes = ap (λ n. n * lanes) s in omega (arith, e, f)

-- what is read at a place after a write at another
pub pattern_after : (words : List Word) (w : Word) (lanes r j q i : ℕ) → place_of lanes r j < length words → i < lanes → j < lanes →
    pattern_at (set words (place_of lanes r j) w) (place_of lanes q i) ≡ cond ((q == r) && (i == j)) w.0 (pattern_at words (place_of lanes q i))
pattern_after words w lanes r j q i h k l = pattern_set words w (place_of lanes r j) (place_of lanes q i) h ∙ ap (λ b. cond b w.0 (pattern_at words (place_of lanes q i))) (same_test (cases_eq q r) (cases_eq i j))
  where
    same_test : (q ≡ r) ⊎ (q ≢ r) → (i ≡ j) ⊎ (i ≢ j) → (place_of lanes q i == place_of lanes r j) ≡ ((q == r) && (i == j))
    same_test (inl s) (inl t) = eq-eqb (place_of lanes q i) (place_of lanes r j) (ap (λ n. place_of lanes n i) s ∙ ap (place_of lanes r) t) ∙ sym (ap (λ b. b && (i == j)) (eq-eqb q r s) ∙ eq-eqb i j t)
    same_test (inl s) (inr d) = ne_eqb (place_of lanes q i) (place_of lanes r j) (λ e. d (apart_lane q r lanes i j s e)) ∙ sym (ap (λ b. b && (i == j)) (eq-eqb q r s) ∙ ne_eqb i j d)
    same_test (inr d) t = ne_eqb (place_of lanes q i) (place_of lanes r j) (λ e. d (apart r q lanes i j k l e)) ∙ sym (ap (λ b. b && (i == j)) (ne_eqb q r d))

-- ---- writes

-- what a lane has of a row: A, it is one of the lanes; B, the row is a register; E, the row is the one that was written; I, so is
-- the lane; x, the pattern that is read, of `old` before
module _ (w old x : ℕ) where
  abbrev pub Read : Bool → Bool → Bool → Type 0
  Read A E I = A ≡ true → x ≡ cond (E && I) w old

  pub reg_written : (A B E I : Bool) → Read A E I → A ≡ true → I ≡ true → (E ≡ true → B ≡ true) → cond (A && B) x 0 ≡ cond E w (cond (A && B) old 0)
  reg_written true true true true f a i g = f refl
  reg_written true true true false f a i g = absurd (false≢true i)
  reg_written true true false I f a i g = f refl
  reg_written true false true I f a i g = absurd (false≢true (g refl))
  reg_written true false false I f a i g = refl
  reg_written false B E I f a i g = absurd (false≢true a)

  pub reg_kept : (A B E I : Bool) → Read A E I → (A ≡ true → B ≡ true → (E && I) ≡ false) → cond (A && B) x 0 ≡ cond (A && B) old 0
  reg_kept true true true true f g = absurd (false≢true (sym (g refl refl)))
  reg_kept true true true false f g = f refl
  reg_kept true true false I f g = f refl
  reg_kept true false E I f g = refl
  reg_kept false B E I f g = refl

  pub mask_written : (A E I on : Bool) → Read A E I → A ≡ true → I ≡ true → not (w == 0) ≡ on → (A && not (x == 0)) ≡ cond E on (A && not (old == 0))
  mask_written true true true on f a i h = ap (λ n. not (n == 0)) (f refl) ∙ h
  mask_written true true false on f a i h = absurd (false≢true i)
  mask_written true false I on f a i h = ap (λ n. not (n == 0)) (f refl)
  mask_written false E I on f a i h = absurd (false≢true a)

  pub mask_kept : (A E I : Bool) → Read A E I → (A ≡ true → (E && I) ≡ false) → (A && not (x == 0)) ≡ (A && not (old == 0))
  mask_kept true true true f g = absurd (false≢true (sym (g refl)))
  mask_kept true true false f g = ap (λ n. not (n == 0)) (f refl)
  mask_kept true false I f g = ap (λ n. not (n == 0)) (f refl)
  mask_kept false E I f g = refl

pub and_off : (a b : Bool) → b ≡ false → (a && b) ≡ false
and_off true b h = h
and_off false b h = refl

pub off_and : (a b : Bool) → a ≡ false → (a && b) ≡ false
off_and a b h = ap (λ t. t && b) h

module _ (lanes registers : ℕ) (words : List Word) (stops : List (Option Stop)) (j : ℕ) (w : Word) (inside : j < lanes) where
  read : (r : ℕ) → place_of lanes r j < length words → (q i : ℕ) → Read w.0 (pattern_at words (place_of lanes q i)) (pattern_at (set words (place_of lanes r j) w) (place_of lanes q i)) (nat_lt i lanes) (q == r) (i == j)
  read r h q i a = pattern_after words w lanes r j q i h (ltb-true i lanes a) inside

  abbrev before : ℕ → LaneState
  before = lane_of lanes registers words stops

  abbrev after : ℕ → ℕ → LaneState
  after r = lane_of lanes registers (set words (place_of lanes r j) w) stops

  pub lane_with_reg : (r : ℕ) → r < registers → place_of lanes r j < length words → lane_of lanes registers (set words (place_of lanes r j) w) stops ≡ put (lane_of lanes registers words stops) j (with_reg (lane_of lanes registers words stops j) r w.0)
  lane_with_reg r below len = one_lane before (after r) j (with_reg (before j) r w.0)
      (same_lane (after r j) (with_reg (before j) r w.0)
      (λ q. reg_written w.0 _ _ (nat_lt j lanes) (nat_lt q registers) (q == r) (j == j) (read r len q j) (lt-ltb j lanes inside) (eq-eqb j j refl) (λ e. lt-ltb q registers (omega (arith, below, eqb-true q r e))))
      (λ m. mask j m) refl)
      (λ i d. same_lane (after r i) (before i)
      (λ q. reg_kept w.0 _ _ (nat_lt i lanes) (nat_lt q registers) (q == r) (i == j) (read r len q i) (λ a b. and_off (q == r) (i == j) (ne_eqb i j d)))
      (λ m. mask i m) refl)
    where
      mask : (i m : ℕ) → (nat_lt i lanes && not (pattern_at (set words (place_of lanes r j) w) (place_of lanes (registers + m) i) == 0)) ≡ (nat_lt i lanes && not (pattern_at words (place_of lanes (registers + m) i) == 0))
      mask i m = mask_kept w.0 _ _ (nat_lt i lanes) ((registers + m) == r) (i == j) (read r len (registers + m) i) (λ a. off_and ((registers + m) == r) (i == j) (ne_eqb (registers + m) r (λ e. omega (arith, e, below))))

  pub lane_with_mask : (m : ℕ) (on : Bool) → not (w.0 == 0) ≡ on → place_of lanes (registers + m) j < length words →
      lane_of lanes registers (set words (place_of lanes (registers + m) j) w) stops ≡ put (lane_of lanes registers words stops) j (with_mask (lane_of lanes registers words stops j) m on)
  lane_with_mask m on bit len = one_lane before (after (registers + m)) j (with_mask (before j) m on)
      (same_lane (after (registers + m) j) (with_mask (before j) m on) (λ q. reg j q)
      (λ k. subst (λ b. (nat_lt j lanes && not (pattern_at (set words (place_of lanes (registers + m) j) w) (place_of lanes (registers + k) j) == 0)) ≡ cond b on (nat_lt j lanes && not (pattern_at words (place_of lanes (registers + k) j) == 0))) (same_mask k)
      (mask_written w.0 _ _ (nat_lt j lanes) ((registers + k) == (registers + m)) (j == j) on (read (registers + m) len (registers + k) j) (lt-ltb j lanes inside) (eq-eqb j j refl) bit)) refl)
      (λ i d. same_lane (after (registers + m) i) (before i) (λ q. reg i q)
      (λ k. mask_kept w.0 _ _ (nat_lt i lanes) ((registers + k) == (registers + m)) (i == j) (read (registers + m) len (registers + k) i) (λ a. and_off ((registers + k) == (registers + m)) (i == j) (ne_eqb i j d))) refl)
    where
      same_mask : (k : ℕ) → ((registers + k) == (registers + m)) ≡ (k == m)
      same_mask k = elim (cases_eq k m) as (λ _. ((registers + k) == (registers + m)) ≡ (k == m)) [
        | inl s ↦ eq-eqb (registers + k) (registers + m) (omega (arith, s)) ∙ sym (eq-eqb k m s)
        | inr d ↦ ne_eqb (registers + k) (registers + m) (λ e. d (omega (arith, e))) ∙ sym (ne_eqb k m d)
      ]

      reg : (i q : ℕ) → cond (nat_lt i lanes && nat_lt q registers) (pattern_at (set words (place_of lanes (registers + m) j) w) (place_of lanes q i)) 0 ≡ cond (nat_lt i lanes && nat_lt q registers) (pattern_at words (place_of lanes q i)) 0
      reg i q = reg_kept w.0 _ _ (nat_lt i lanes) (nat_lt q registers) (q == (registers + m)) (i == j) (read (registers + m) len q i)
          (λ a b. off_and (q == (registers + m)) (i == j) (ne_eqb q (registers + m) (λ e. omega (arith, e, ltb-true q registers b))))

-- ---- an empty frame

none_kept : (k j : ℕ) → slice_index_or {A = Option Stop} (replicate k None) j None ≡ None
none_kept zero j = refl
none_kept (suc k) zero = refl
none_kept (suc k) (suc j) = none_kept k j

pub all_run : (k j : ℕ) (inside : Bool) → inside ≡ (inside && is_none (slice_index_or {A = Option Stop} (replicate k None) j None))
all_run k j true = sym (ap (λ (o : Option Stop). is_none o) (none_kept k j))
all_run k j false = refl

zero_row : (A B : Bool) (x : ℕ) → x ≡ 0 → cond (A && B) x 0 ≡ 0
zero_row true true x h = h
zero_row true false x h = refl
zero_row false B x h = refl

off_row : (A : Bool) (x : ℕ) → x ≡ 0 → (A && not (x == 0)) ≡ false
off_row true x h = ap (λ n. not (n == 0)) h
off_row false x h = refl

pub lanes_empty : (lanes registers k : ℕ) (words : List Word) → ((n : ℕ) → pattern_at words n ≡ 0) → lane_of lanes registers words (replicate k None) ≡ no_lanes
lanes_empty lanes registers k words h = same_lanes (lane_of lanes registers words (replicate k None)) no_lanes
    (λ j. same_lane (lane_of lanes registers words (replicate k None) j) (no_lanes j)
    (λ r. zero_row (nat_lt j lanes) (nat_lt r registers) _ (h (place_of lanes r j)))
    (λ m. off_row (nat_lt j lanes) _ (h (place_of lanes (registers + m) j)))
    (none_kept k j))
