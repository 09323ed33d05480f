-- The first among faults, one list and one visit after another.
use Rattle.std.proofs.Common.{◌≡◌, List, [], ◌∷◌, ◌++◌, Option, refl}
use Rattle.vk_rules_book.specs.declared.faults.Fault.{Fault}
use Rattle.vk_rules_book.specs.Faults.{first_among, first_of}
use Rattle.vk_rules_book.specs.Visits.{Visit}
use Rattle.vk_rules_book.specs.Rules.{Subject, faults_at}
use Rattle.vk_rules_book.specs.Noting.{found}

pub among_none : (old : Option Fault) → first_among old [] ≡ old
unfolding first_among
among_none old = refl

pub among_one : (old : Option Fault) (x : Fault) → first_among old (x ∷ []) ≡ first_of old x
unfolding first_among
among_one old x = refl

pub among_append : (old : Option Fault) (xs ys : List Fault) → first_among old (xs ++ ys) ≡ first_among (first_among old xs) ys
unfolding first_among
among_append old [] ys = refl
among_append old (x ∷ xs) ys = among_append (first_of old x) xs ys

module _ (unit : Subject) where
  pub found_none : (old : Option Fault) → found unit old [] ≡ old
  unfolding found
  found_none old = refl

  pub found_first : (old : Option Fault) (v : Visit) (ws : List Visit) → found unit old (v ∷ ws) ≡ found unit (first_among old (faults_at unit v)) ws
  unfolding found
  found_first old v ws = refl

  pub found_one : (old : Option Fault) (v : Visit) → found unit old (v ∷ []) ≡ first_among old (faults_at unit v)
  unfolding found
  found_one old v = refl

  pub found_cons : (old : Option Fault) (v w : Visit) (ws : List Visit) → found unit old (v ∷ (w ∷ ws)) ≡ found unit (first_among old (faults_at unit v)) (w ∷ ws)
  unfolding found
  found_cons old v w ws = refl

  pub found_append : (old : Option Fault) (vs ws : List Visit) → found unit old (vs ++ ws) ≡ found unit (found unit old vs) ws
  unfolding found
  found_append old [] ws = refl
  found_append old (v ∷ vs) ws = found_append (first_among old (faults_at unit v)) vs ws
