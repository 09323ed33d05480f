-- The first verdict of a code that is not good, by its kinds of parts.
use Rattle.std.proofs.Common.{◌≡◌, ℕ, ◌+◌, Bool, true, false, cond, List, ◌∷◌, ◌++◌, length, Option, Some, None, is_none, IsOk, is_ok, ◌↔◌, Result, refl, ap, sym, ◌∙◌, arith}
use Rattle.std.proofs.lemmas.Bool.{false≢true}
use Rattle.std.specs.Option.{option_map}
use Rattle.vk_code.specs.declared.validity.CodeFault.{CodeFault}
use Rattle.vk_code.specs.Tests.{all_good, first_bad}
use Rattle.vk_code.specs.Valid.{answer_of}
use Rattle.vk_code.proofs.Faults.{bad_before, bad_behind, everywhere, map_map, none_bad, nowhere}

-- behind a good head
pub behind_head : (h : Bool) (bs : List Bool) → h ≡ true → first_bad (h ∷ bs) ≡ option_map (λ k. k + 1) (first_bad bs)
behind_head h bs e = ap (λ b. cond b (option_map (λ k. k + 1) (first_bad bs)) (Some 0)) e

pub bad_head : (h : Bool) (bs : List Bool) → h ≡ false → first_bad (h ∷ bs) ≡ Some 0
bad_head h bs e = ap (λ b. cond b (option_map (λ k. k + 1) (first_bad bs)) (Some 0)) e

one_more : (o : Option ℕ) → option_map (λ k. k + 1) o ≡ option_map (λ k. 1 + k) o
one_more None = refl
one_more (Some k) = ap Some (omega arith)

some_more : (k : ℕ) → Some (k + 1) ≡ Some (1 + k)
some_more k = ap Some (omega arith)

-- among the first parts behind the head
pub bad_first : (h : Bool) (us vs : List Bool) (k : ℕ) → h ≡ true → first_bad us ≡ Some k → first_bad (h ∷ (us ++ vs)) ≡ Some (1 + k)
bad_first h us vs k e b = behind_head h (us ++ vs) e ∙ (ap (option_map (λ k. k + 1)) (bad_before us vs k b) ∙ some_more k)

-- behind the first parts
pub behind_first : (h : Bool) (us vs : List Bool) (n : ℕ) → h ≡ true → first_bad us ≡ None → length us ≡ n → first_bad (h ∷ (us ++ vs)) ≡ option_map (λ k. 1 + n + k) (first_bad vs)
behind_first h us vs n e b l =
    behind_head h (us ++ vs) e
    ∙ (one_more (first_bad (us ++ vs))
    ∙ (ap (option_map (λ k. 1 + k)) (bad_behind us vs (everywhere us b) ∙ ap (λ m. option_map (λ k. m + k) (first_bad vs)) l)
    ∙ map_map 1 n (first_bad vs)))

-- behind all of them
pub behind_both : (h : Bool) (us vs ws : List Bool) (m n : ℕ) → h ≡ true → first_bad us ≡ None → first_bad vs ≡ None → length us ≡ m → length vs ≡ n →
    first_bad (h ∷ (us ++ (vs ++ ws))) ≡ option_map (λ k. 1 + m + n + k) (first_bad ws)
behind_both h us vs ws m n e b c l k =
    behind_first h us (vs ++ ws) m e b l
    ∙ (ap (option_map (λ j. 1 + m + j)) (bad_behind vs ws (everywhere vs c) ∙ ap (λ i. option_map (λ j. i + j) (first_bad ws)) k)
    ∙ map_map (1 + m) n (first_bad ws))

-- an answer is Ok exactly where all are good
pub is_ok_where : (bs : List Bool) (r : Result (Unit {0}) CodeFault) → r ≡ answer_of (first_bad bs) → IsOk r ↔ (all_good bs ≡ true)
is_ok_where bs r e = (λ h. sym (none_bad bs) ∙ ok_none (first_bad bs) (ap is_ok (sym e) ∙ h), λ h. ap is_ok e ∙ ap (λ o. is_ok (answer_of o)) (nowhere bs h))
  where
    ok_none : (o : Option ℕ) → is_ok (answer_of o) ≡ true → is_none o ≡ true
    ok_none None h = refl
    ok_none (Some n) h = absurd (false≢true h)
