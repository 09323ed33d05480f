-- Members one after the other, from a place on: a loop over them finds the first fault.
use Rattle.std.proofs.Common.{◌≡◌, ℕ, zero, suc, min, ◌+◌, ◌<◌, ◌≤◌, Bool, true, false, List, [], ◌∷◌, length, take, drop, get_or, Option, Some, None, refl, ap, sym, ◌∙◌, subst, arith, add-one}
use Rattle.std.specs.Prelude.{is_some}
use Rattle.std.specs.List.{sum_by}
use Rattle.std.proofs.Math.Seq.{drop-cons}
use Rattle.std.proofs.lemmas.Bool.{false≢true}
use Rattle.std.proofs.lemmas.List.{drop_all}
use Rattle.std.proofs.lemmas.List.Sums.{sum_by_more}
use Rattle.vk_format.specs.declared.rules.ObjectFault.{ObjectFault}
use Rattle.vk_code_format.specs.Fields.{first_along, or_else}
use Rattle.vk_code_rows.specs.Sums.{capped}
use Rattle.vk_object_faults.specs.Inner.Told.{place_told}

module _ {A : Type 0} (size : A → ℕ) (faults : ℕ → ℕ → A → Option ObjectFault) (xs : List A) (n p : ℕ) where
  -- where member i begins
  abbrev pub place_of_member : ℕ → ℕ
  place_of_member i = p + sum_by size (take i xs)

  -- the first i members have no fault, and the next one begins here
  pub record Going (i place : ℕ) : Type 0 where
    pub here : place ≡ capped (place_of_member i)
    pub onward : first_along size faults n p xs ≡ first_along size faults (n + i) (place_of_member i) (drop i xs)

  pub starts : (place : ℕ) → place ≡ capped p → Going 0 place
  starts place e =
      let same : p ≡ p + 0 = omega arith in
      let first : n ≡ n + 0 = omega arith in
      record {
        here = e ∙ ap capped same;
        onward = ap (λ k. first_along size faults k p xs) first ∙ ap (λ k. first_along size faults (n + 0) k xs) same;
      }

  -- member i, and those behind it
  taken_apart : (i : ℕ) (x d : A) → i < length xs → x ≡ get_or xs i d
      → first_along size faults (n + i) (place_of_member i) (drop i xs) ≡ or_else (faults (n + i) (place_of_member i) x) (first_along size faults (n + i + 1) (place_of_member i + size x) (drop (suc i) xs))
  taken_apart i x d inside e =
      ap (first_along size faults (n + i) (place_of_member i)) (drop-cons xs i d inside)
      ∙ ap (λ y. or_else (faults (n + i) (place_of_member i) y) (first_along size faults (n + i + 1) (place_of_member i + size y) (drop (suc i) xs))) (sym e)

  next_place : (i : ℕ) (x d : A) → i < length xs → x ≡ get_or xs i d → place_of_member (i + 1) ≡ place_of_member i + size x
  next_place i x d inside e = let more = sum_by_more size xs i d inside in let same = ap size e in omega (arith, more, same)

  pub goes : (i place : ℕ) (x d : A) → i < length xs → x ≡ get_or xs i d → Going i place → faults (n + i) (place_of_member i) x ≡ None
      → (next : ℕ) → next ≡ capped (place_of_member i + size x) → Going (i + 1) next
  goes i place x d inside e g none next at =
      let later = next_place i x d inside e in
      let number : n + i + 1 ≡ n + (i + 1) = omega arith in
      record {
        here = at ∙ ap capped (sym later);
        onward =
            g.onward
            ∙ taken_apart i x d inside e
            ∙ ap (λ o. or_else o (first_along size faults (n + i + 1) (place_of_member i + size x) (drop (suc i) xs))) none
            ∙ ap (λ k. first_along size faults k (place_of_member i + size x) (drop (suc i) xs)) number
            ∙ ap (λ k. first_along size faults (n + (i + 1)) k (drop (suc i) xs)) (sym later)
            ∙ ap (λ k. first_along size faults (n + (i + 1)) (place_of_member (i + 1)) (drop k xs)) (sym (add-one i));
      }

  stops_by : (o : Option ObjectFault) (told : Option ℕ) (rest : Option ObjectFault) → told ≡ place_told o → is_some told ≡ true → told ≡ place_told (or_else o rest)
  stops_by None told rest e some = absurd (false≢true (sym (ap is_some e) ∙ some))
  stops_by (Some f) told rest e some = e

  -- member i has a fault
  pub stops : (i place : ℕ) (x d : A) (told : Option ℕ) → i < length xs → x ≡ get_or xs i d → Going i place → told ≡ place_told (faults (n + i) (place_of_member i) x) → is_some told ≡ true
      → told ≡ place_told (first_along size faults n p xs)
  stops i place x d told inside e g h some =
      stops_by (faults (n + i) (place_of_member i) x) told (first_along size faults (n + i + 1) (place_of_member i + size x) (drop (suc i) xs)) h some
      ∙ ap place_told (sym (g.onward ∙ taken_apart i x d inside e))

  -- all members have none
  pub ends : (i place : ℕ) → length xs ≤ i → Going i place → None ≡ place_told (first_along size faults n p xs)
  ends i place all g = ap place_told (sym (g.onward ∙ ap (first_along size faults (n + i) (place_of_member i)) (drop_all i xs all)))

-- an item inside a list is there whatever stands for those past its end
default_free : {A : Type 0} (xs : List A) (i : ℕ) (d e : A) → i < length xs → get_or xs i d ≡ get_or xs i e
default_free [] i d e h = absurd (omega (arith, h))
default_free (x ∷ xs) zero d e h = refl
default_free (x ∷ xs) (suc i) d e h = default_free xs i d e (omega (arith, h))

pub same_item : {A : Type 0} (xs : List A) (i : ℕ) (x y : A) → i < length xs → x ≡ get_or xs i x → y ≡ get_or xs i y → x ≡ y
same_item xs i x y h e f = e ∙ default_free xs i x y h ∙ sym f

-- sums that stay at the greatest number
pub sum_told : (a b r p q : ℕ) → a ≡ capped p → b ≡ capped q → r ≡ min (a + b) 18446744073709551615 → r ≡ capped (p + q)
sum_told a b r p q h k e = omega (arith, h, k, e)

pub none_by : (o : Option ObjectFault) (told : Option ℕ) → told ≡ place_told o → is_some told ≡ false → o ≡ None
none_by None told e h = refl
none_by (Some f) told e h = absurd (false≢true (sym h ∙ ap is_some e))
