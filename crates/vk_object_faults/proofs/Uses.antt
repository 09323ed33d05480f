-- Symbols that are used once, by the numbers of uses.
use Rattle.std.proofs.Common.{◌≡◌, ℕ, ◌+◌, ◌<◌, ◌≤◌, ◌==◌, Bool, true, false, cond, eqb, count_by, List, [], ◌∷◌, length, map, Option, Some, None, refl, ap, ap₂, sym, ◌∙◌, arith, inl, inr}
use Rattle.std.specs.Prelude.{slice_index}
use Rattle.std.specs.List.{sum_by}
use Rattle.std.proofs.lemmas.Bool.{cases_lt, ne_eqb}
use Rattle.std.proofs.lemmas.List.Sums.{sum_by-cons}
use Rattle.vk_object.specs.Objects.{DataLists, FunctionLists, is_used_once}
use Rattle.vk_format.specs.declared.rules.ObjectFault.{ObjectFault}
use Rattle.vk_format.specs.declared.rules.ObjectRule.TheVariants.{O6}
use Rattle.vk_format.specs.Format.{fault}
use Rattle.vk_code_format.specs.Fields.{first_along, or_else, unless}
use Rattle.vk_code_rows.specs.Sums.{capped}
use Rattle.vk_object_format.specs.declared.rows.RawObject.{RawObject}
use Rattle.vk_object_format.specs.Object.{symbol_fault, symbol_length}
use Rattle.vk_object_format.specs.Values.{data_of, function_of, object_of}
use Rattle.vk_object_faults.specs.Inner.Told.{unused, uses_of}

count_map : {A B : Type 0} (f : A → B) (p : B → Bool) (xs : List A) → count_by p (map f xs) ≡ count_by (λ x. p (f x)) xs
count_map f p [] = refl
count_map f p (x ∷ xs) =
    sum_by-cons (λ y. cond (p y) 1 0) (f x) (map f xs)
    ∙ ap (λ n. cond (p (f x)) 1 0 + n) (count_map f p xs)
    ∙ sym (sum_by-cons (λ y. cond (p (f y)) 1 0) x xs)

once_capped : (n : ℕ) → (capped n == 1) ≡ (n == 1)
once_capped n = elim (cases_lt n 18446744073709551616) [
  | inl low ↦ let same : capped n ≡ n = omega (arith, low) in ap (λ k. k == 1) same
  | inr high ↦ ne_eqb (capped n) 1 (λ e. omega (arith, e, high)) ∙ sym (ne_eqb n 1 (λ e. omega (arith, e, high)))
]

used_is : (o : RawObject) (n : ℕ) → (uses_of o n == 1) ≡ is_used_once (object_of o) n
used_is o n =
    ap₂ (λ a b. (a + b) == 1) (sym (count_map data_of (λ (d : DataLists). d.symbol == n) o.objects)) (sym (count_map function_of (λ (f : FunctionLists). f.symbol == n) o.functions))

pub unused_is : (o : RawObject) (uses : List ℕ) (ts : List (List ℕ)) (n at : ℕ) → ((k : ℕ) → k < n + length ts → slice_index uses k ≡ capped (uses_of o k))
    → first_along symbol_length (unused uses) n at ts ≡ first_along symbol_length (symbol_fault o) n at ts
unused_is o uses [] n at h = refl
unused_is o uses (t ∷ ts) n at h =
    let here : (slice_index uses n == 1) ≡ is_used_once (object_of o) n = ap (λ k. k == 1) (h n (omega arith)) ∙ once_capped (uses_of o n) ∙ used_is o n in
    ap₂ (λ (a b : Option ObjectFault). or_else a b) (ap (λ b. unless b (fault at O6)) here)
    (unused_is o uses ts (n + 1) (at + symbol_length t) (λ k lt. h k (omega (arith, lt))))

pub unused_none : (uses : List ℕ) (i at : ℕ) (t : List ℕ) → (slice_index uses i == 1) ≡ true → unused uses (0 + i) at t ≡ None
unused_none uses i at t h =
    let same : 0 + i ≡ i = omega arith in
    ap (λ k. unless (slice_index uses k == 1) (fault at O6)) same ∙ ap (λ b. unless b (fault at O6)) h

pub unused_some : (uses : List ℕ) (i at : ℕ) (t : List ℕ) → (slice_index uses i == 1) ≡ false → unused uses (0 + i) at t ≡ Some (fault at O6)
unused_some uses i at t h =
    let same : 0 + i ≡ i = omega arith in
    ap (λ k. unless (slice_index uses k == 1) (fault at O6)) same ∙ ap (λ b. unless b (fault at O6)) h
