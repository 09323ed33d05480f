-- Lanes that meet, as the tests tell it.
use Rattle.std.proofs.Common.{◌≡◌, ℕ, ◌+◌, ◌<◌, Bool, true, false, ◌&&◌, List, length, Some, None, refl, sym, ap, ap₂, ◌∙◌, arith, inl, inr, ◌⊎◌}
use Rattle.std.proofs.lemmas.Bool.{cases_lt}
use Rattle.vk_kinds.specs.declared.heads.CType.{CType}
use Rattle.vk_meaning.specs.World.{Array}
use Rattle.vk_meaning.specs.Lanes.{Words}
use Rattle.vk_arguments.specs.Arguments.{IsLeastPair}
use Rattle.vk_apart.specs.declared.reach.Reach.{Reach}
use Rattle.vk_apart.specs.declared.reach.Reach.TheVariants.{Cell, Whole}
use Rattle.vk_apart.specs.Apart.{AreMeeting, Meets}
use Rattle.vk_apart.specs.Inner.Reaches.{meet, reach}
use Rattle.vk_apart.specs.Inner.Pairs.{IsLeast, IsNext, NoneBefore, active_meet, is_met, lanes_meet}
use Rattle.vk_apart.proofs.Any.{any_at, any_found}
use Rattle.vk_apart.proofs.Reaching.{Meeting, same_cell, read_by_other, read_by_one, meet_cells, meet_one, meet_other, meeting, named, names, read, read_below, reads}

module _ (ts : List CType) (arrays : List Array) (words : Words) where
  abbrev Reached : ℕ → ℕ → Reach
  Reached p j = reach ts arrays words p j

  -- ---- from the test

  by_meeting : (r s : Reach) → Meeting r s → (p q i j : ℕ) → p < length ts → q < length ts → reach ts arrays words p i ≡ r → reach ts arrays words q j ≡ s →
      Meets ts arrays words i j ⊎ Meets ts arrays words j i
  by_meeting _ _ (same_cell a c) p q i j first second e f =
      inl (record { array = a; index = c; named = names ts arrays words p i a c first e; met = inl (names ts arrays words q j a c second f) })
  by_meeting _ _ (read_by_other a c) p q i j first second e f =
      inl (record { array = a; index = c; named = names ts arrays words p i a c first e; met = inr (reads ts arrays words q j a second f) })
  by_meeting _ _ (read_by_one a c) p q i j first second e f =
      inr (record { array = a; index = c; named = names ts arrays words q j a c second f; met = inr (reads ts arrays words p i a first e) })

  pub meets : (i j : ℕ) → lanes_meet ts arrays words i j ≡ true → Meets ts arrays words i j ⊎ Meets ts arrays words j i
  meets i j e =
      let first = any_found (length ts) (λ p. is_met ts arrays words (reach ts arrays words p i) j) e in
      let second = any_found (length ts) (λ q. meet (reach ts arrays words first.at i) (reach ts arrays words q j)) first.is in
      by_meeting (reach ts arrays words first.at i) (reach ts arrays words second.at j) (meeting (reach ts arrays words first.at i) (reach ts arrays words second.at j) second.is)
      first.at second.at i j first.below second.below refl refl

  -- ---- to the test

  at_parameters : (p q i j : ℕ) → p < length ts → q < length ts → meet (reach ts arrays words p i) (reach ts arrays words q j) ≡ true → lanes_meet ts arrays words i j ≡ true
  at_parameters p q i j first second e =
      any_at (length ts) p (λ p. is_met ts arrays words (reach ts arrays words p i) j) first (any_at (length ts) q (λ q. meet (reach ts arrays words p i) (reach ts arrays words q j)) second e)

  by_reaches : (r s : Reach) (p q i j : ℕ) → p < length ts → q < length ts → reach ts arrays words p i ≡ r → reach ts arrays words q j ≡ s → meet r s ≡ true →
      lanes_meet ts arrays words i j ≡ true
  by_reaches r s p q i j first second e f is = at_parameters p q i j first second (ap₂ meet e f ∙ is)

  forward : (i j : ℕ) → Meets ts arrays words i j → lanes_meet ts arrays words i j ≡ true
  forward i j m = elim m.met [
    | inl n ↦ by_reaches (Cell m.array m.index) (Cell m.array m.index) m.named.parameter n.parameter i j m.named.below n.below (named ts arrays words i m.array m.index m.named)
        (named ts arrays words j m.array m.index n) (meet_cells m.array m.index)
    | inr r ↦ by_reaches (Cell m.array m.index) (Whole m.array) m.named.parameter r.parameter i j m.named.below (read_below ts words j m.array r)
        (named ts arrays words i m.array m.index m.named) (read ts arrays words j m.array r) (meet_other m.array m.index)
  ]

  backward : (i j : ℕ) → Meets ts arrays words j i → lanes_meet ts arrays words i j ≡ true
  backward i j m = elim m.met [
    | inl n ↦ by_reaches (Cell m.array m.index) (Cell m.array m.index) n.parameter m.named.parameter i j n.below m.named.below (named ts arrays words i m.array m.index n)
        (named ts arrays words j m.array m.index m.named) (meet_cells m.array m.index)
    | inr r ↦ by_reaches (Whole m.array) (Cell m.array m.index) r.parameter m.named.parameter i j (read_below ts words i m.array r) m.named.below
        (read ts arrays words i m.array r) (named ts arrays words j m.array m.index m.named) (meet_one m.array m.index)
  ]

  pub are_met : (i j : ℕ) → Meets ts arrays words i j ⊎ Meets ts arrays words j i → lanes_meet ts arrays words i j ≡ true
  are_met i j m = elim m [ inl one ↦ forward i j one | inr other ↦ backward i j other ]

  -- ---- active lanes

  three : (a b c : Bool) → (a && (b && c)) ≡ true → (a ≡ true) × (b ≡ true) × (c ≡ true)
  three true true true e = (refl, refl, refl)
  three true true false e = cc
  three true false c e = cc
  three false b c e = cc

  all_three : (a b c : Bool) → a ≡ true → b ≡ true → c ≡ true → (a && (b && c)) ≡ true
  all_three true true c e f h = h
  all_three true false c e f h = cc
  all_three false b c e f h = cc

  pub tested : (n : ℕ) (mask : ℕ → Bool) (i j : ℕ) → i < j → j < n → active_meet ts arrays words mask i j ≡ true → AreMeeting ts arrays n words mask i j
  tested n mask i j lt below e = let parts = three (mask i) (mask j) (lanes_meet ts arrays words i j) e in record {
    ordered = lt;
    inside = below;
    first_on = parts.0;
    second_on = parts.1;
    meets = meets i j parts.2;
  }

  pub test_of : (n : ℕ) (mask : ℕ → Bool) (i j : ℕ) → AreMeeting ts arrays n words mask i j → active_meet ts arrays words mask i j ≡ true
  test_of n mask i j m = all_three (mask i) (mask j) (lanes_meet ts arrays words i j) m.first_on m.second_on (are_met i j m.meets)

  -- the least pair
  pub least_is : (n : ℕ) (mask : ℕ → Bool) (i j : ℕ) → IsLeast n (active_meet ts arrays words mask) (Some (i, j)) → IsLeastPair (AreMeeting ts arrays n words mask) i j
  least_is n mask i j h = record {
    is = tested n mask i j (let above = (h.2).0 in omega arith) ((h.2).1) ((h.2).2);
    least = λ p l m. elim (cases_lt i p) [
      | inl lt ↦ inl lt
      | inr ge ↦ elim (cases_lt p i) [
        | inl before ↦ let no = h.1 p l before m.ordered m.inside in let yes = test_of n mask p l m in absurd (cc)
        | inr after ↦ let same : i ≡ p = omega arith in elim (cases_lt l j) [
          | inl less ↦
              let ordered = m.ordered in
              let no = ((h.2).3) l (omega arith) less in
              let yes : active_meet ts arrays words mask i l ≡ true = ap (λ k. active_meet ts arrays words mask k l) same ∙ test_of n mask p l m in
              absurd (cc)
          | inr more ↦ inr (same, more)
        ]
      ]
    ];
  }

  pub none_meet : (n : ℕ) (mask : ℕ → Bool) → IsLeast n (active_meet ts arrays words mask) None → (i j : ℕ) → AreMeeting ts arrays n words mask i j → ⊥
  none_meet n mask h i j m =
      let ordered = m.ordered in
      let inside = m.inside in
      let no = h i j (omega arith) m.ordered m.inside in let yes = test_of n mask i j m in cc

-- one lane more that has no partner
pub none_more : (i n : ℕ) (f : ℕ → ℕ → Bool) → NoneBefore i n f → IsNext (i + 1) n (f i) None → NoneBefore (i + 1) n f
none_more i n f before here k l lt ordered below = elim (cases_lt k i) [
  | inl less ↦ before k l less ordered below
  | inr ge ↦ let same : i ≡ k = omega arith in sym (ap (λ a. f a l) same) ∙ here l (omega arith) below
]
