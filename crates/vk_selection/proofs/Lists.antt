-- Lists: tests of the first items, and what is told of the item at a place.
use Rattle.std.proofs.Common.{◌≡◌, ℕ, zero, suc, ◌+◌, ◌<◌, ◌≤◌, ◌||◌, Bool, true, false, List, [], ◌∷◌, length, map, take, get_or, Option, Some, None, slice_get, refl, ap, sym, subst, arith, ◌∙◌, IsSomeAnd}
use Rattle.std.specs.List.{list_any, prefix_len, take_while}

-- truth values
no_more : (b : Bool) → b ≡ false → (b || false) ≡ false
no_more true e = e
no_more false e = refl

rest : (b u v : Bool) → (b || u) ≡ false → (u ≡ false → v ≡ false) → (b || v) ≡ false
rest true u v e next = e
rest false u v e next = next e

first_of : (a b : Bool) → a ≡ true → (a || b) ≡ true
first_of true b e = refl
first_of false b e = cc

other_of : (a b : Bool) → b ≡ true → (a || b) ≡ true
other_of true b e = refl
other_of false b e = e

-- the item at a place of a mapped list
pub at_mapped : {X Y : Type 0} (f : X → Y) (xs : List X) (k : ℕ) (d : X) → k < length xs → slice_get (map f xs) k ≡ Some (f (get_or xs k d))
at_mapped f [] k d h = absurd (omega arith)
at_mapped f (x ∷ xs) zero d h = refl
at_mapped f (x ∷ xs) (suc k) d h = at_mapped f xs k d (omega arith)

-- a test fails at all places below one more
pub any_more : {X : Type 0} (p : X → Bool) (xs : List X) (k : ℕ) (x : X) → slice_get xs k ≡ Some x → list_any p (take k xs) ≡ false → p x ≡ false → list_any p (take (k + 1) xs) ≡ false
any_more p [] k x at before here = cc
any_more p (y ∷ ys) zero x at before here = let same : y ≡ x = cc in subst (λ z. (p z || false) ≡ false) (sym same) (no_more (p x) here)
any_more p (y ∷ ys) (suc k) x at before here =
    let same : suc (k + 1) ≡ suc k + 1 = omega arith in
    subst (λ n. list_any p (take n (y ∷ ys)) ≡ false) same (rest (p y) (list_any p (take k ys)) (list_any p (take (k + 1) ys)) before (λ b. any_more p ys k x at b here))

-- it passes at one
pub any_here : {X : Type 0} (p : X → Bool) (xs : List X) (k : ℕ) (x : X) → slice_get xs k ≡ Some x → p x ≡ true → list_any p xs ≡ true
any_here p [] k x at here = cc
any_here p (y ∷ ys) zero x at here = let same : y ≡ x = cc in first_of (p y) (list_any p ys) (ap p same ∙ here)
any_here p (y ∷ ys) (suc k) x at here = other_of (p y) (list_any p ys) (any_here p ys k x at here)

-- the item at a place, and what holds of it
pub there : {X : Type 0} (xs : List X) (k : ℕ) → k < length xs → (x : X) × (slice_get xs k ≡ Some x)
there [] k h = absurd (omega arith)
there (x ∷ xs) zero h = (x, refl)
there (x ∷ xs) (suc k) h = there xs k (omega arith)

pub told : {X : Type 0} (P : X → Type 0) (o : Option X) (x : X) → IsSomeAnd o P → o ≡ Some x → P x
told P None x h e = absurd h
told P (Some y) x h e = let same : y ≡ x = cc in subst P same h

-- a front that is as long as the list
whole_take : {X : Type 0} (n : ℕ) (xs : List X) → length xs ≤ length (take n xs) → take n xs ≡ xs
whole_take zero [] h = refl
whole_take zero (x ∷ xs) h = absurd (omega (arith, h))
whole_take (suc n) [] h = refl
whole_take (suc n) (x ∷ xs) h = ap (λ ys. x ∷ ys) (whole_take n xs (omega (arith, h)))

pub whole_front : {X : Type 0} (p : X → Bool) (xs : List X) → length xs ≤ length (take_while p xs) → take_while p xs ≡ xs
whole_front p xs h = whole_take (prefix_len p xs) xs h
