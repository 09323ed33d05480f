-- A lane that gets its arguments, and all lanes.
use Rattle.std.proofs.Common.{◌≡◌, ℕ, ◌+◌, ◌<◌, ◌≤◌, ◌==◌, nat_lt, ◌&&◌, Bool, true, false, cond, refl, ap, sym, ◌∙◌, arith, ◌⊎◌, inl, inr, None}
use Rattle.std.proofs.lemmas.Bool.{cases_eq, cases_lt, eq-eqb, le-ltb, lt-ltb, ne_eqb}
use Rattle.vk_object.specs.Lane.{LaneState, with_mask, with_reg}
use Rattle.vk_object.specs.Machine.{first_lane, put}
use Rattle.vk_frames.specs.Each.{each}
use Rattle.vk_frames.specs.Rows.{no_lanes}
use Rattle.vk_frames.proofs.Writes.{put_same, same_lane, same_lanes}
use Rattle.vk_passing.specs.Filled.{filled, given}

pub put_put : (f : ℕ → LaneState) (j : ℕ) (a b : LaneState) → put (put f j a) j b ≡ put f j b
put_put f j a b = same_lanes (put (put f j a) j b) (put f j b) (λ i. by i (i == j))
  where
    by : (i : ℕ) (t : Bool) → cond t b (cond t a (f i)) ≡ cond t b (f i)
    by i true = refl
    by i false = refl

-- no argument yet
pub given_none : (args : ℕ → ℕ → ℕ) (j : ℕ) → given 0 args j ≡ no_lanes j
given_none args j = same_lane (given 0 args j) (no_lanes j) (λ r. ap (λ b. cond b (args r j) 0) (le-ltb r 0 (omega arith))) (λ m. refl) refl

-- one argument more
pub given_more : (n : ℕ) (args : ℕ → ℕ → ℕ) (j w : ℕ) → w ≡ args n j → with_reg (given n args j) n w ≡ given (n + 1) args j
given_more n args j w e = same_lane (with_reg (given n args j) n w) (given (n + 1) args j) at (λ m. refl) refl
  where
    at : (r : ℕ) → cond (r == n) w (cond (nat_lt r n) (args r j) 0) ≡ cond (nat_lt r (n + 1)) (args r j) 0
    at r = by (cases_eq r n)
      where
        by : (r ≡ n) ⊎ (r ≡ n → ⊥) → cond (r == n) w (cond (nat_lt r n) (args r j) 0) ≡ cond (nat_lt r (n + 1)) (args r j) 0
        by (inl s) = ap (λ b. cond b w (cond (nat_lt r n) (args r j) 0)) (eq-eqb r n s) ∙ (e ∙ (ap (λ k. args k j) (sym s) ∙ sym (ap (λ b. cond b (args r j) 0) (lt-ltb r (n + 1) (omega (arith, s))))))
        by (inr d) = ap (λ b. cond b w (cond (nat_lt r n) (args r j) 0)) (ne_eqb r n d) ∙ ap (λ b. cond b (args r j) 0) (same (cases_lt r n))
          where
            same : (r < n) ⊎ (n ≤ r) → nat_lt r n ≡ nat_lt r (n + 1)
            same (inl h) = lt-ltb r n h ∙ sym (lt-ltb r (n + 1) (omega (arith, h)))
            same (inr h) = le-ltb r n h ∙ sym (le-ltb r (n + 1) (omega (arith, h, d)))

-- the lane is on, or off
pub given_on : (n : ℕ) (args : ℕ → ℕ → ℕ) (on : ℕ → Bool) (j : ℕ) (b : Bool) → b ≡ on j → with_mask (given n args j) 0 b ≡ filled n args on j
given_on n args on j b e = same_lane (with_mask (given n args j) 0 b) (filled n args on j) (λ r. refl) (λ m. ap (λ t. cond (m == 0) t false) e ∙ by (m == 0) (on j)) refl
  where
    by : (t u : Bool) → cond t u false ≡ (t && u)
    by true u = refl
    by false u = refl

-- all lanes are filled
pub all_filled : (lanes params : ℕ) (args : ℕ → ℕ → ℕ) (on : ℕ → Bool) → each lanes (λ j l. filled params args on j) no_lanes ≡ first_lane lanes params args on
all_filled lanes params args on = same_lanes (each lanes (λ j l. filled params args on j) no_lanes) (first_lane lanes params args on) (λ j. by j (nat_lt j lanes))
  where
    by : (j : ℕ) (b : Bool) → cond b (filled params args on j) (no_lanes j) ≡ record { reg = λ r. cond (b && nat_lt r params) (args r j) 0; on = λ m. b && (m == 0) && on j; stop = None }
    by j true = refl
    by j false = refl

-- ---- steps

pub next_argument : (before now next : ℕ → LaneState) (j n : ℕ) (args : ℕ → ℕ → ℕ) (w : ℕ) → now ≡ put before j (given n args j) → next ≡ put now j (with_reg (now j) n w) → w ≡ args n j → next ≡ put before j (given (n + 1) args j)
next_argument before now next j n args w e h f =
    h ∙ (ap (λ (g : ℕ → LaneState). put g j (with_reg (g j) n w)) e
    ∙ (put_put before j (given n args j) (with_reg (put before j (given n args j) j) n w)
    ∙ ap (put before j) (ap (λ l. with_reg l n w) (put_same before j (given n args j)) ∙ given_more n args j w f)))

pub last_argument : (before now next : ℕ → LaneState) (j n k : ℕ) (args : ℕ → ℕ → ℕ) (on : ℕ → Bool) (b : Bool) → now ≡ put before j (given n args j) → n ≡ k → next ≡ put now j (with_mask (now j) 0 b) → b ≡ on j → next ≡ put before j (filled k args on j)
last_argument before now next j n k args on b e m h f =
    h ∙ (ap (λ (g : ℕ → LaneState). put g j (with_mask (g j) 0 b)) (e ∙ ap (λ i. put before j (given i args j)) m)
    ∙ (put_put before j (given k args j) (with_mask (put before j (given k args j) j) 0 b)
    ∙ ap (put before j) (ap (λ l. with_mask l 0 b) (put_same before j (given k args j)) ∙ given_on k args on j b f)))

-- a lane that is still to come is empty
pub still_empty : (before now : ℕ → LaneState) (j : ℕ) (f : ℕ → LaneState → LaneState) → now ≡ each j f before → before ≡ no_lanes → now j ≡ no_lanes j
still_empty before now j f e h = ap (λ (g : ℕ → LaneState). g j) e ∙ (ap (λ b. cond b (f j (before j)) (before j)) (le-ltb j j (omega arith)) ∙ ap (λ (g : ℕ → LaneState). g j) h)
