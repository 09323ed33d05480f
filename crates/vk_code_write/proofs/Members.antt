-- Members seen as lists without pointers.
use Rattle.std.proofs.Common.{Result, OnOk, subst, append_assoc, ◌≡◌, ℕ, List, ◌++◌, flat_map, length, map, ap, ◌∙◌, sym}
use Rattle.std.proofs.lemmas.List.{length-map}
use Rattle.std.proofs.lemmas.List.Folds.{flat_map-map}
use Rattle.byteorder.specs.Endian.{little_bytes}

-- a count and the bytes of the members
pub counted_seen : {A B : Type 0} (width : ℕ) (bytes : B → List ℕ) (see : A → B) (xs : List A)
    → little_bytes width (length xs) ++ flat_map (λ x. bytes (see x)) xs ≡ little_bytes width (length (map see xs)) ++ flat_map bytes (map see xs)
counted_seen width bytes see xs =
    ap (λ n. little_bytes width n ++ flat_map (λ x. bytes (see x)) xs) (sym (length-map xs see))
    ∙ ap (λ ys. little_bytes width (length (map see xs)) ++ ys) (sym (flat_map-map bytes see xs))

-- they are written, the count first
pub counted : {A B T E : Type 0} (width : ℕ) (r : Result T E) (new mid old : List ℕ) (bytes : B → List ℕ) (see : A → B) (xs : List A)
    → mid ≡ old ++ little_bytes width (length xs) → OnOk r (new ≡ mid ++ flat_map (λ x. bytes (see x)) xs)
    → OnOk r (new ≡ old ++ (little_bytes width (length (map see xs)) ++ flat_map bytes (map see xs)))
counted width r new mid old bytes see xs e h =
    subst (λ ys. OnOk r (new ≡ ys))
    (ap (λ m. m ++ flat_map (λ x. bytes (see x)) xs) e ∙ append_assoc old (little_bytes width (length xs)) (flat_map (λ x. bytes (see x)) xs) ∙ ap (λ ys. old ++ ys) (counted_seen width bytes see xs)) h

-- they are written without a count
pub listed : {A B T E : Type 0} (r : Result T E) (new old : List ℕ) (bytes : B → List ℕ) (see : A → B) (xs : List A)
    → OnOk r (new ≡ old ++ flat_map (λ x. bytes (see x)) xs) → OnOk r (new ≡ old ++ flat_map bytes (map see xs))
listed r new old bytes see xs h = subst (λ ys. OnOk r (new ≡ old ++ ys)) (sym (flat_map-map bytes see xs)) h
