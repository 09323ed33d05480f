-- One item more of a list that a loop goes along.
use Rattle.std.proofs.Common.{◌≡◌, ℕ, ◌+◌, ◌<◌, List, [], ◌∷◌, ◌++◌, length, take, get_or, map, filter_map, flat_map, Option, sym, ap, ◌∙◌, append_assoc, append-nil}
use Rattle.std.proofs.lemmas.List.{take_more, map-append}
use Rattle.std.proofs.lemmas.List.Elements.{filter_map-append}
use Rattle.std.proofs.lemmas.Grind.{flat_map-append}

module _ {X : Type 0} (xs : List X) (i : ℕ) (x : X) (below : i < length xs) (is : x ≡ get_or xs i x) where
  taken : take (i + 1) xs ≡ take i xs ++ x ∷ []
  taken = take_more xs i x below ∙ ap (λ y. take i xs ++ y ∷ []) (sym is)

  module _ {Y Z : Type 0} where
    pub one_kept : (f : Y → Option Z) (v : X → Y) (start got next : List Z) → got ≡ start ++ filter_map f (map v (take i xs)) → next ≡ got ++ filter_map f (v x ∷ []) →
        next ≡ start ++ filter_map f (map v (take (i + 1) xs))
    one_kept f v start got next e n =
        n ∙ ap (λ l. l ++ filter_map f (v x ∷ [])) e ∙ append_assoc start (filter_map f (map v (take i xs))) (filter_map f (v x ∷ []))
        ∙ ap (λ l. start ++ l) (sym (ap (λ l. filter_map f (map v l)) taken ∙ ap (filter_map f) (map-append v (take i xs) (x ∷ [])) ∙ filter_map-append f (map v (take i xs)) (v x ∷ [])))

    pub one_joined : (f : Y → List Z) (v : X → Y) (got next : List Z) → got ≡ flat_map f (map v (take i xs)) → next ≡ got ++ f (v x) → next ≡ flat_map f (map v (take (i + 1) xs))
    one_joined f v got next e n =
        n ∙ ap (λ l. l ++ f (v x)) e
        ∙ sym (ap (λ l. flat_map f (map v l)) taken ∙ ap (flat_map f) (map-append v (take i xs) (x ∷ [])) ∙ flat_map-append f (map v (take i xs)) (v x ∷ []) ∙ ap (λ l. flat_map f (map v (take i xs)) ++ l) (append-nil (f (v x))))

    pub one_mapped : (f : Y → Z) (v : X → Y) (got : List Z) (z : Z) → got ≡ map f (map v (take i xs)) → z ≡ f (v x) → got ++ z ∷ [] ≡ map f (map v (take (i + 1) xs))
    one_mapped f v got z e n =
        ap (λ l. l ++ z ∷ []) e ∙ ap (λ y. map f (map v (take i xs)) ++ y ∷ []) n
        ∙ sym (ap (λ l. map f (map v l)) taken ∙ ap (map f) (map-append v (take i xs) (x ∷ [])) ∙ map-append f (map v (take i xs)) (v x ∷ []))
