-- Tests that pass for some number below another one.
use Rattle.std.proofs.Common.{◌≡◌, ℕ, zero, suc, ◌+◌, ◌<◌, Bool, true, false, ◌||◌, refl, sym, ap, ◌∙◌, arith, inl, inr, ◌⊎◌}
use Rattle.std.proofs.lemmas.Bool.{cases_lt}
use Rattle.vk_apart.specs.Inner.Pairs.{any_below}

or_left : (a b : Bool) → a ≡ true → (a || b) ≡ true
or_left true b e = refl
or_left false b e = cc

or_right : (a b : Bool) → b ≡ true → (a || b) ≡ true
or_right true b e = refl
or_right false b e = e

or_none : (a b : Bool) → a ≡ false → b ≡ false → (a || b) ≡ false
or_none true b e f = cc
or_none false b e f = f

or_some : (a b : Bool) → (a || b) ≡ true → (a ≡ true) ⊎ (b ≡ true)
or_some true b e = inl refl
or_some false b e = inr e

-- one number more
pub any_more : (n : ℕ) (f : ℕ → Bool) → any_below n f ≡ false → f n ≡ false → any_below (n + 1) f ≡ false
any_more n f e h = let next : n + 1 ≡ suc n = omega arith in ap (λ k. any_below k f) next ∙ or_none (any_below n f) (f n) e h

pub any_at : (n k : ℕ) (f : ℕ → Bool) → k < n → f k ≡ true → any_below n f ≡ true
any_at zero k f h e = absurd (omega arith)
any_at (suc n) k f h e = elim (cases_lt k n) [
  | inl lt ↦ or_left (any_below n f) (f n) (any_at n k f lt e)
  | inr ge ↦ let same : k ≡ n = omega arith in or_right (any_below n f) (f n) (sym (ap f same) ∙ e)
]

pub record Found (n : ℕ) (f : ℕ → Bool) : Type 0 where
  pub at : ℕ
  pub below : at < n
  pub is : f at ≡ true

pub any_found : (n : ℕ) (f : ℕ → Bool) → any_below n f ≡ true → Found n f
any_found zero f e = cc
any_found (suc n) f e = elim (or_some (any_below n f) (f n) e) [
  | inl before ↦ let found = any_found n f before in record { at = found.at; below = let lt = found.below in omega arith; is = found.is }
  | inr here ↦ record { at = n; below = omega arith; is = here }
]
