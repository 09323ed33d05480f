-- Results of lanes.
use Rattle.std.proofs.Common.{◌≡◌, ℕ, ◌+◌, ◌<◌, ◌≤◌, ◌⊎◌, Bool, true, false, cond, List, length, set, refl, ap, sym, ◌∙◌, inl, inr, arith}
use Rattle.std.proofs.lemmas.Bool.{cases_eq, cases_lt}
use Rattle.vk_types.specs.declared.types.Word.{Word}
use Rattle.vk_lanes.specs.Words.{word_in}
use Rattle.vk_lanes.specs.Inner.Blocks.{WritesOn, chosen, is_between}
use Rattle.vk_lanes.proofs.Written.{outside, writes_more, writes_none}

-- a lane that is not on keeps its word
pub unwritten : (lane : ℕ) (on : ℕ → Bool) (value : ℕ → ℕ) (row : List Word) → on lane ≡ false → WritesOn lane (lane + 1) on value row row
unwritten lane on value row h i = elim (cases_eq i lane) as (λ _. word_in row i ≡ cond (is_between lane (lane + 1) i) (chosen on value row i) (word_in row i)) [
  | inl s ↦ both (is_between lane (lane + 1) i) (ap (λ b. cond b (value i) (word_in row i)) (ap on s ∙ h))
  | inr d ↦ ap (λ b. cond b (chosen on value row i) (word_in row i)) (sym (outside lane (lane + 1) i (apart d)))
]
  where
    apart : (i ≡ lane → ⊥) → (i < lane) ⊎ (lane + 1 ≤ i)
    apart d = elim (cases_lt i lane) as (λ _. (i < lane) ⊎ (lane + 1 ≤ i)) [ inl l ↦ inl l | inr m ↦ inr (omega (arith, m, d)) ]

    both : (b : Bool) → chosen on value row i ≡ word_in row i → word_in row i ≡ cond b (chosen on value row i) (word_in row i)
    both true e = sym e
    both false e = refl

-- a lane that is on gets its word
pub written : (lane : ℕ) (on : ℕ → Bool) (value : ℕ → ℕ) (row : List Word) (w : ℕ) → lane < length row → on lane ≡ true → w ≡ value lane → WritesOn lane (lane + 1) on value row (set row lane (record { 0 = w }))
written lane on value row w l h e =
    writes_more lane lane (chosen on value row) row row w (omega arith) l (e ∙ ap (λ b. cond b (value lane) (word_in row lane)) (sym h)) (writes_none lane (chosen on value row) row)
