-- The number of an array by its name, and the array that has it.
use Rattle.std.proofs.Common.{◌≡◌, ◌<◌, ℕ, suc, ◌+◌, nat_lt, not, cond, Bool, true, false, List, [], ◌∷◌, length, get_or, unwrap_or, Option, Some, None, bytes_eq, refl, sym, ap, subst, ◌∙◌, arith}
use Rattle.std.specs.List.{prefix_len}
use Rattle.std.specs.Option.{option_or}
use Rattle.std.proofs.lemmas.Bool.Decides.{nat_tests}
use Rattle.vk_meaning.specs.World.{Array, array_at, no_array}
use Rattle.vk_meaning.specs.Programs.{array_number}
use Rattle.vk_joins_laws.proofs.Arrays.{look}

-- how many arrays of other names stand in front
place : (text : List ℕ) → List Array → ℕ
place text [] = 0
place text (a ∷ arrays) = cond (not (bytes_eq a.text text)) (suc (place text arrays)) 0

place_is : (text : List ℕ) (arrays : List Array) → prefix_len (λ (a : Array). not (bytes_eq a.text text)) arrays ≡ place text arrays
unfolding place
place_is text [] = refl
place_is text (a ∷ arrays) =
    ap (λ (n : ℕ). cond (not (bytes_eq a.text text)) (1 + n) 0) (place_is text arrays) ∙
    ap (λ (n : ℕ). cond (not (bytes_eq a.text text)) n 0) (one_more (place text arrays))
  where
    one_more : (n : ℕ) → 1 + n ≡ suc n
    one_more n = omega arith

number_by : ℕ → ℕ → ℕ
number_by k n = unwrap_or (cond (nat_lt k n) (Some k) None) n

number_is : (text : List ℕ) (arrays : List Array) → array_number arrays text ≡ number_by (place text arrays) (length arrays)
unfolding number_by
number_is text arrays = ap (λ (k : ℕ). number_by k (length arrays)) (place_is text arrays)

inside : (k n : ℕ) → k < n → number_by k n ≡ k
unfolding number_by
inside k n h = ap (λ (b : Bool). unwrap_or (cond b (Some k) None) n) (passes k n h)
  where
    passes : (k n : ℕ) → k < n → nat_lt k n ≡ true
    passes k n h = grind (arith, nat_tests)

outside : (n : ℕ) → number_by n n ≡ n
unfolding number_by
outside n = ap (λ (b : Bool). unwrap_or (cond b (Some n) None) n) (fails n)
  where
    fails : (n : ℕ) → nat_lt n n ≡ false
    fails n = grind (arith, nat_tests)

record IsPlaced (arrays : List Array) (k : ℕ) (a : Array) : Type 0 where
  within : k < length arrays
  is : get_or arrays k no_array ≡ a

placed : (text : List ℕ) (arrays : List Array) (a : Array) → look text arrays ≡ Some a → IsPlaced arrays (place text arrays) a
unfolding place
placed text [] a e = cc
placed text (x ∷ arrays) a e = at (bytes_eq x.text text) e (λ k. placed text arrays a k)
  where
    at : (b : Bool) → option_or (cond b (Some x) None) (look text arrays) ≡ Some a → (look text arrays ≡ Some a → IsPlaced arrays (place text arrays) a) →
        IsPlaced (x ∷ arrays) (cond (not b) (suc (place text arrays)) 0) a
    at true k next = record { within = omega arith; is = cc }
    at false k next = let p = next k in record { within = omega (arith, p.within); is = p.is }

placed_nowhere : (text : List ℕ) (arrays : List Array) → look text arrays ≡ None → place text arrays ≡ length arrays
unfolding place
placed_nowhere text [] e = refl
placed_nowhere text (x ∷ arrays) e = at (bytes_eq x.text text) e (λ k. placed_nowhere text arrays k)
  where
    at : (b : Bool) → option_or (cond b (Some x) None) (look text arrays) ≡ None → (look text arrays ≡ None → place text arrays ≡ length arrays) →
        cond (not b) (suc (place text arrays)) 0 ≡ length (x ∷ arrays)
    at true k next = cc
    at false k next = ap (λ (n : ℕ). suc n) (next k)

-- the array with this name is there, by its number
pub record IsNumbered (arrays : List Array) (text : List ℕ) (a : Array) : Type 0 where
  pub there : array_number arrays text < length arrays
  pub is : array_at arrays (array_number arrays text) ≡ a

pub numbered : (text : List ℕ) (arrays : List Array) (a : Array) → look text arrays ≡ Some a → IsNumbered arrays text a
numbered text arrays a e =
    let p = placed text arrays a e in
    let n : array_number arrays text ≡ place text arrays = number_is text arrays ∙ inside (place text arrays) (length arrays) p.within in
    record {
      there = subst (λ (k : ℕ). k < length arrays) (sym n) p.within;
      is = ap (λ (k : ℕ). array_at arrays k) n ∙ p.is;
    }

pub record IsLooked (arrays : List Array) (text : List ℕ) : Type 0 where
  pub array : Array
  pub is : look text arrays ≡ Some array

-- an array that is there has the name
pub looked : (text : List ℕ) (arrays : List Array) → array_number arrays text < length arrays → IsLooked arrays text
looked text arrays h = at (look text arrays) refl
  where
    never : (n : ℕ) → n < n → ⊥
    never n k = omega (arith, k)

    at : (o : Option Array) → look text arrays ≡ o → IsLooked arrays text
    at (Some a) e = record { array = a; is = e }
    at None e =
        absurd (never (length arrays)
        (subst (λ (k : ℕ). k < length arrays)
        (number_is text arrays ∙ (ap (λ (k : ℕ). number_by k (length arrays)) (placed_nowhere text arrays e) ∙ outside (length arrays))) h))
