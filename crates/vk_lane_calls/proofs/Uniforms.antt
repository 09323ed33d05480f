-- Arguments of the kinds u and l: what is passed is what the lanes have, where their shapes hold.
use Rattle.std.proofs.Common.{arith, sym, ◌≡◌, ℕ, zero, suc, ◌+◌, ◌<◌, ◌==◌, Bool, true, false, cond, ◌||◌, List, Some, refl, subst, ap, ◌∙◌, ◌⊎◌, inl, inr, ℤ, ◌+ℤ◌, true≢false}
use Rattle.std.specs.Prelude.{slice_get}
use Rattle.vk_types.specs.declared.types.Ty.{Ty}
use Rattle.vk_types.specs.Numbers.{number_of, wrap_number}
use Rattle.vk_kinds.specs.declared.heads.CType.{CType}
use Rattle.vk_kinds.specs.declared.heads.CType.TheVariants.{Int}
use Rattle.vk_kinds.specs.declared.kinds.Kind.TheVariants.{Uniform}
use Rattle.vk_numbers.proofs.Numbers.{number_of-word, wrap_in_range}
use Rattle.vk_meaning.specs.Lanes.{FitsFrom, IsMoved}
use Rattle.vk_meaning.specs.Types.{type_at}
use Rattle.vk_object.specs.Lane.{LaneState, is_live, number_at}
use Rattle.vk_object.specs.Machine.{Target, arg_reg, kind_at, passed, any_live, first_live, moved_by}
use Rattle.vk_lane.specs.Places.{Shares, Place, lanes_of}
use Rattle.vk_lane_calls.specs.Callable.{passed_words, own_words}

either_of : (a b : Bool) → (a || b) ≡ true → (a ≡ true) ⊎ ((a ≡ false) × (b ≡ true))
either_of true b e = inl refl
either_of false b e = inr (refl, e)

or_false : (a b : Bool) → (a || b) ≡ true → a ≡ false → b ≡ true
or_false true b e f = absurd (true≢false f)
or_false false b e f = e

-- the first live lane is live
pub first_is : (n m : ℕ) (lane : ℕ → LaneState) → any_live n m lane ≡ true → (first_live n m lane < n) × (is_live m (lane (first_live n m lane)) ≡ true)
first_is zero m lane e = absurd (true≢false (sym e))
first_is (suc n) m lane e = go (any_live n m lane) refl (λ q. first_is n m lane q)
  where
    Here : ℕ → Type 0
    Here k = (k < suc n) × (is_live m (lane k) ≡ true)

    go : (a : Bool) → any_live n m lane ≡ a → (any_live n m lane ≡ true → (first_live n m lane < n) × (is_live m (lane (first_live n m lane)) ≡ true)) →
        Here (cond (any_live n m lane) (first_live n m lane) (cond (is_live m (lane n)) n (n + 1)))
    go true q rec = let r = rec q in let l = r.0 in subst (λ a. Here (cond a (first_live n m lane) (cond (is_live m (lane n)) n (n + 1)))) (sym q) (omega (arith, l), r.1)
    go false q rec = let b : is_live m (lane n) ≡ true = or_false (any_live n m lane) (is_live m (lane n)) e q in
        subst (λ a. Here (cond a (first_live n m lane) (cond (is_live m (lane n)) n (n + 1)))) (sym q) (subst (λ a. Here (cond a n (n + 1))) (sym b) (omega arith, b))

some_live : (n m : ℕ) (lane : ℕ → LaneState) (j : ℕ) → j < n → is_live m (lane j) ≡ true → any_live n m lane ≡ true
some_live zero m lane j l e = absurd (omega (arith, l))
some_live (suc n) m lane j l e = go (j == n) refl (λ lt. some_live n m lane j lt e)
  where
    or_right : (a b : Bool) → b ≡ true → (a || b) ≡ true
    or_right true b f = refl
    or_right false b f = f

    or_left : (a b : Bool) → a ≡ true → (a || b) ≡ true
    or_left true b f = refl
    or_left false b f = absurd (true≢false (sym f))

    go : (q : Bool) → (j == n) ≡ q → (j < n → any_live n m lane ≡ true) → (any_live n m lane || is_live m (lane n)) ≡ true
    go true q rec = or_right _ _ (subst (λ k. is_live m (lane k) ≡ true) (grind (arith, q)) e)
    go false q rec = or_left _ _ (rec (grind (arith, l, q)))

-- ---- u

-- all live lanes have one word: it is passed to each
pub uniform_same : (x : Place) (m : ℕ) (t : Target) (hs : Shares) (p u : ℕ) → kind_at t.entry p ≡ Uniform → ((j : ℕ) → j < lanes_of x → is_live m (hs j).lane ≡ true → (hs j).lane.reg (arg_reg t.slot p) ≡ u) →
    (j : ℕ) → j < lanes_of x → is_live m (hs j).lane ≡ true → passed_words x m t hs p j ≡ own_words t.slot (hs j) p j
uniform_same x m t hs p u ek one j l live =
    let f = first_is (lanes_of x) m (λ k. (hs k).lane) (some_live (lanes_of x) m (λ k. (hs k).lane) j l live) in
    ap (λ k. passed (slice_get x.site.code.routine.regs (arg_reg t.slot p)) (λ q. number_at x.site.code.routine.regs ((hs (first_live (lanes_of x) m (λ k. (hs k).lane))).lane) (arg_reg t.slot q)) k (λ i. (hs i).lane.reg (arg_reg t.slot p)) (first_live (lanes_of x) m (λ k. (hs k).lane)) j) ek
    ∙ (one (first_live (lanes_of x) m (λ k. (hs k).lane)) f.0 f.1 ∙ sym (one j l live))

-- and the words fit the kind, whatever the mask
pub uniform_fits : (x : Place) (m : ℕ) (t : Target) (hs : Shares) (p : ℕ) (ts : List CType) (k j : ℕ) → kind_at t.entry p ≡ Uniform → FitsFrom Uniform (type_at ts p) ts (passed_words x m t hs) p k j
uniform_fits x m t hs p ts k j ek = at j ∙ sym (at k)
  where
    at : (i : ℕ) → passed_words x m t hs p i ≡ (hs (first_live (lanes_of x) m (λ k. (hs k).lane))).lane.reg (arg_reg t.slot p)
    at i = ap (λ q. passed (slice_get x.site.code.routine.regs (arg_reg t.slot p)) (λ q. number_at x.site.code.routine.regs ((hs (first_live (lanes_of x) m (λ k. (hs k).lane))).lane) (arg_reg t.slot q)) q (λ i. (hs i).lane.reg (arg_reg t.slot p)) (first_live (lanes_of x) m (λ k. (hs k).lane)) i) ek

-- ---- l, of integers

-- a moved word is moved as the kind says
pub moved_fits : (t : Ty) (w : ℕ) (n : ℤ) → IsMoved (Int t) n w (moved_by (Some (Int t)) w n)
moved_fits t w n = number_of-word t (wrap_number t (number_of t w +ℤ n)) (wrap_in_range t (number_of t w +ℤ n))
