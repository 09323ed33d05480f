-- Live lanes, and the lowest stop.
use Rattle.std.proofs.Common.{◌≡◌, ℕ, zero, suc, ◌+◌, ◌<◌, refl, ap, arith, sym, ◌∙◌, subst, true, false, Bool, ◌||◌, ◌&&◌, nat_lt, Some, Option, None, cond, inl, inr, List, ◌==◌, not, is_none, slice_index_or}
use Rattle.std.proofs.lemmas.Bool.{cases_eq, false≢true}
use Rattle.vk_types.specs.declared.types.Stop.{Stop}
use Rattle.vk_types.specs.declared.types.Stop.TheVariants.{Turns}
use Rattle.vk_types.specs.declared.types.Word.{Word}
use Rattle.vk_object.specs.Lane.{LaneState, is_live, out_of_turns, with_stop}
use Rattle.vk_object.specs.Machine.{any_live, first_live, lowest_stop}
use Rattle.vk_frames.specs.Each.{each}
use Rattle.vk_frames.specs.Rows.{lane_of, pattern_at, place_of}
use Rattle.vk_frames.proofs.Writes.{same_lanes}

or_true : (a b : Bool) → b ≡ true → (a || b) ≡ true
or_true true b h = refl
or_true false b h = h

pub any_of : (n m j : ℕ) (l : ℕ → LaneState) → is_live m (l j) ≡ true → j < n → any_live n m l ≡ true
any_of zero m j l e b = absurd (omega (arith, b))
any_of (suc n) m j l e b = elim (cases_eq j n) as (λ _. (any_live n m l || is_live m (l n)) ≡ true) [
  | inl s ↦ or_true (any_live n m l) (is_live m (l n)) (subst (λ k. is_live m (l k) ≡ true) s e)
  | inr d ↦ ap (λ t. t || is_live m (l n)) (any_of n m j l e (omega (arith, b, d)))
]

pub first_is : (n m j : ℕ) (l : ℕ → LaneState) → any_live j m l ≡ false → is_live m (l j) ≡ true → j < n → first_live n m l ≡ j
first_is zero m j l h e b = absurd (omega (arith, b))
first_is (suc n) m j l h e b = elim (cases_eq j n) as (λ _. cond (any_live n m l) (first_live n m l) (cond (is_live m (l n)) n (n + 1)) ≡ j) [
  | inl s ↦ ap (λ t. cond t (first_live n m l) (cond (is_live m (l n)) n (n + 1))) (subst (λ k. any_live k m l ≡ false) s h) ∙ (ap (λ t. cond t n (n + 1)) (subst (λ k. is_live m (l k) ≡ true) s e) ∙ sym s)
  | inr d ↦ ap (λ t. cond t (first_live n m l) (cond (is_live m (l n)) n (n + 1))) (any_of n m j l e (omega (arith, b, d))) ∙ first_is n m j l h e (omega (arith, b, d))
]

or_false : (a b : Bool) → (a || b) ≡ false → (a ≡ false) × (b ≡ false)
or_false true b h = absurd (false≢true (sym h))
or_false false b h = (refl, h)

one_more : (n : ℕ) → n + 1 ≡ suc n
one_more n = omega arith

pub none_first : (n m : ℕ) (l : ℕ → LaneState) → any_live n m l ≡ false → first_live n m l ≡ n
none_first zero m l h = refl
none_first (suc n) m l h = let p = or_false (any_live n m l) (is_live m (l n)) h in
    ap (λ t. cond t (first_live n m l) (cond (is_live m (l n)) n (n + 1))) p.0 ∙ (ap (λ t. cond t n (n + 1)) p.1 ∙ one_more n)

-- the lowest stop
pub lowest_is : (n j : ℕ) (stops : ℕ → Option Stop) (x : Stop) → lowest_stop j stops ≡ None → stops j ≡ Some x → j < n → lowest_stop n stops ≡ Some x
lowest_is zero j stops x h e b = absurd (omega (arith, b))
lowest_is (suc n) j stops x h e b = elim (cases_eq j n) as (λ _. lowest_stop (suc n) stops ≡ Some x) [
  | inl s ↦ ap (λ o. elim o as (λ _. Option Stop) [ Some y ↦ Some y | None ↦ stops n ]) (subst (λ k. lowest_stop k stops ≡ None) s h) ∙ subst (λ k. stops k ≡ Some x) s e
  | inr d ↦ ap (λ o. elim o as (λ _. Option Stop) [ Some y ↦ Some y | None ↦ stops n ]) (lowest_is n j stops x h e (omega (arith, b, d)))
]

pub lowest_next : (n : ℕ) (stops : ℕ → Option Stop) → lowest_stop n stops ≡ None → stops n ≡ None → lowest_stop (n + 1) stops ≡ None
lowest_next n stops h e = ap (λ k. lowest_stop k stops) (one_more n) ∙ (ap (λ o. elim o as (λ _. Option Stop) [ Some y ↦ Some y | None ↦ stops n ]) h ∙ e)

-- ---- lanes past the lanes

pub past : (lanes registers : ℕ) (words : List Word) (stops : List (Option Stop)) (j m : ℕ) → nat_lt j lanes ≡ false → is_live m (lane_of lanes registers words stops j) ≡ false
past lanes registers words stops j m e = ap (λ b. (b && not (pattern_at words (place_of lanes (registers + m) j) == 0)) && is_none (slice_index_or stops j None)) e

-- all lanes that are live are out of turns
pub all_out : (lanes registers : ℕ) (words : List Word) (stops : List (Option Stop)) (n m : ℕ) → n ≡ lanes →
    each n (λ j l. out_of_turns m l) (lane_of lanes registers words stops) ≡ λ j. out_of_turns m (lane_of lanes registers words stops j)
all_out lanes registers words stops n m e = same_lanes (each n (λ j l. out_of_turns m l) lane) (λ j. out_of_turns m (lane j)) (λ j. at j (nat_lt j n) refl)
  where
    lane : ℕ → LaneState
    lane = lane_of lanes registers words stops

    at : (j : ℕ) (b : Bool) → nat_lt j n ≡ b → each n (λ j l. out_of_turns m l) lane j ≡ out_of_turns m (lane j)
    at j true h = ap (λ b. cond b (out_of_turns m (lane j)) (lane j)) h
    at j false h = ap (λ b. cond b (out_of_turns m (lane j)) (lane j)) h ∙ sym (ap (λ b. cond b (with_stop (lane j) Turns) (lane j)) (past lanes registers words stops j m (ap (nat_lt j) (sym e) ∙ h)))
