-- Two lists whose members pass two by two.
use Rattle.std.proofs.Common.{◌≡◌, ℕ, suc, ◌+◌, ◌<◌, ◌≤◌, Bool, true, false, ◌&&◌, List, [], ◌∷◌, length, drop, get_or, refl, ap, sym, ◌∙◌, add-one}
use Rattle.std.proofs.lemmas.List.{drop_all}
use Rattle.std.proofs.Math.Seq.{drop-cons}
use Rattle.vk_code.specs.Tests.{pairs}

-- from place i on: the members there, and those behind
pub pairs-drop : {A B : Type 0} (p : A → B → Bool) (xs : List A) (ys : List B) (i : ℕ) (d : A) (e : B) → i < length xs → i < length ys →
    pairs p (drop i xs) (drop i ys) ≡ (p (get_or xs i d) (get_or ys i e) && pairs p (drop (i + 1) xs) (drop (i + 1) ys))
pairs-drop p xs ys i d e h k =
    ap (λ l. pairs p l (drop i ys)) (drop-cons xs i d h)
    ∙ (ap (λ l. pairs p (get_or xs i d ∷ drop (suc i) xs) l) (drop-cons ys i e k)
    ∙ ap (λ n. p (get_or xs i d) (get_or ys i e) && pairs p (drop n xs) (drop n ys)) (sym (add-one i)))

-- past both ends
pub pairs_past : {A B : Type 0} (p : A → B → Bool) (xs : List A) (ys : List B) (i : ℕ) → length xs ≤ i → length ys ≤ i → pairs p (drop i xs) (drop i ys) ≡ true
pairs_past p xs ys i h k = ap (λ l. pairs p l (drop i ys)) (drop_all i xs h) ∙ ap (λ l. pairs p [] l) (drop_all i ys k)

-- lists of two lengths do not pass
pub pairs_uneven : {A B : Type 0} (p : A → B → Bool) (xs : List A) (ys : List B) → (length xs ≡ length ys → ⊥) → pairs p xs ys ≡ false
pairs_uneven p [] [] h = absurd (h refl)
pairs_uneven p [] (y ∷ ys) h = refl
pairs_uneven p (x ∷ xs) [] h = refl
pairs_uneven p (x ∷ xs) (y ∷ ys) h = ap (λ b. p x y && b) (pairs_uneven p xs ys (λ e. h (ap suc e))) ∙ and_false (p x y)
  where
    and_false : (b : Bool) → (b && false) ≡ false
    and_false true = refl
    and_false false = refl
