-- Lists of visits with one fact of each.
use Rattle.std.proofs.Common.{◌≡◌, zero, suc, List, [], ◌∷◌, ◌++◌, Contains, refl, subst, arith}
use Rattle.std.specs.List.{AllByRecursion, flat_map}
use Rattle.vk_rules_book.specs.Rules.{Subject, faults_at, faults_of}
use Rattle.vk_rules_book.specs.Visits.{Visit, unit_visits}
use Rattle.vk_rules.proofs.Quiet.{quiet_left, quiet_right}

module _ {A : Type 0} (P : A → Type 0) where
  pub front : (x y : List A) → AllByRecursion P (x ++ y) → AllByRecursion P x
  front [] y h = tt
  front (v ∷ x) y h = (h.0, front x y h.1)

  pub back : (x y : List A) → AllByRecursion P (x ++ y) → AllByRecursion P y
  back [] y h = h
  back (v ∷ x) y h = back x y h.1

  pub both : (x y : List A) → AllByRecursion P x → AllByRecursion P y → AllByRecursion P (x ++ y)
  both [] y h k = k
  both (v ∷ x) y h k = (h.0, both x y h.1 k)

  pub at_one : (xs : List A) (v : A) → AllByRecursion P xs → Contains xs v → P v
  at_one [] v h (k, lt, at) = absurd (omega (arith, lt))
  at_one (w ∷ xs) v h (zero, lt, at) = subst P at h.0
  at_one (w ∷ xs) v h (suc k, lt, at) = at_one xs v h.1 (k, omega (arith, lt), at)

  pub at_all : (xs : List A) → ((v : A) → Contains xs v → P v) → AllByRecursion P xs
  at_all [] h = tt
  at_all (w ∷ xs) h = (h w (zero, omega arith, refl), at_all xs (λ v is_in. h v (suc is_in.0, omega (arith, is_in.1), is_in.2)))

-- no rule is broken at the visit
abbrev pub IsQuiet : Subject → Visit → Type 0
IsQuiet unit v = faults_at unit v ≡ []

each_quiet : (unit : Subject) (vs : List Visit) → flat_map (faults_at unit) vs ≡ [] → AllByRecursion (IsQuiet unit) vs
each_quiet unit [] e = tt
each_quiet unit (v ∷ vs) e =
    (quiet_left (faults_at unit v) (flat_map (faults_at unit) vs) e, each_quiet unit vs (quiet_right (faults_at unit v) (flat_map (faults_at unit) vs) e))

pub unit_quiet : (unit : Subject) → faults_of unit ≡ [] → AllByRecursion (IsQuiet unit) (unit_visits unit.texts unit.items)
unfolding faults_of
unit_quiet unit e = each_quiet unit (unit_visits unit.texts unit.items) e
