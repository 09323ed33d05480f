-- What the first byte of a kind parts.
use Rattle.std.proofs.Common.{◌≡◌, ℕ, ◌<◌, ◌≢◌, List, [], ◌∷◌, ◌++◌, length, get_or, cond, eqb, refl, ap, arith, Option, Some, None, ◌∙◌, suc, option_map}
use Rattle.std.proofs.lemmas.Bool.Decides.{nat_tests}
use Rattle.vk_pointer_texts.specs.Texts.{split_at_first}

is_it : (c : ℕ) (x y : Option (List ℕ × List ℕ)) → cond (eqb c c) x y ≡ x
is_it c x y = grind (arith, nat_tests)

is_not : (b c : ℕ) (x y : Option (List ℕ × List ℕ)) → b ≢ c → cond (eqb b c) x y ≡ y
is_not b c x y h = grind (arith, nat_tests)

pub split_cut : (c : ℕ) (xs ys : List ℕ) → ((i : ℕ) → i < length xs → get_or xs i 0 ≢ c) → split_at_first c (xs ++ (c ∷ ys)) ≡ Some (xs, ys)
split_cut c [] ys h = is_it c (Some ([], ys)) (option_map (λ s. (c ∷ s.0, s.1)) (split_at_first c ys))
split_cut c (x ∷ xs) ys h =
    is_not x c (Some ([], xs ++ (c ∷ ys))) (option_map (λ s. (x ∷ s.0, s.1)) (split_at_first c (xs ++ (c ∷ ys)))) (h 0 (omega arith))
    ∙ ap (option_map (λ (s : List ℕ × List ℕ). (x ∷ s.0, s.1))) (split_cut c xs ys (λ i l. h (suc i) (omega arith)))

pub split_none : (c : ℕ) (xs : List ℕ) → ((i : ℕ) → i < length xs → get_or xs i 0 ≢ c) → split_at_first c xs ≡ None
split_none c [] h = refl
split_none c (x ∷ xs) h =
    is_not x c (Some ([], xs)) (option_map (λ s. (x ∷ s.0, s.1)) (split_at_first c xs)) (h 0 (omega arith))
    ∙ ap (option_map (λ (s : List ℕ × List ℕ). (x ∷ s.0, s.1))) (split_none c xs (λ i l. h (suc i) (omega arith)))
