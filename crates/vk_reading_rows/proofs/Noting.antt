-- Tables of what was noted first.
use Rattle.std.proofs.Common.{◌≡◌, ℕ, zero, suc, ◌+◌, Bool, true, false, cond, List, [], ◌∷◌, ◌++◌, map, take, slice_get, Option, Some, None, is_some, refl, sym, ap, ◌∙◌, true≢false, add-one}
use Rattle.std.specs.Option.{option_or}
use Rattle.std.proofs.lemmas.List.{map-append}
use Rattle.std.proofs.lemmas.Option.{none-some, same_Some}

module _ {T : Type 0} where
  or_none : (o : Option T) → o ≡ option_or o None
  or_none None = refl
  or_none (Some v) = refl

  -- noted where nothing was
  pub noting : (same : Bool) (old : Option T) (v : T) → (same ≡ true → old ≡ None) → cond same (Some v) old ≡ option_or old (cond same (Some v) None)
  noting true old v h = sym (ap (λ (o : Option T). option_or o (Some v)) (h refl))
  noting false old v h = or_none old

  pub nothing_there : (o : Option T) → is_some o ≡ false → o ≡ None
  nothing_there None e = refl
  nothing_there (Some v) e = absurd (true≢false e)

take_next : {X : Type 0} (xs : List X) (n : ℕ) (x : X) → slice_get xs n ≡ Some x → take (suc n) xs ≡ take n xs ++ x ∷ []
take_next [] n x e = absurd (none-some x e)
take_next (y ∷ ys) zero x e = ap (λ z. z ∷ []) (same_Some y x e)
take_next (y ∷ ys) (suc n) x e = ap (λ zs. y ∷ zs) (take_next ys n x e)

-- a list of values, one for each name so far
pub one_name_more : {X Y : Type 0} (f : X → Y) (xs : List X) (n : ℕ) (x : X) (ys : List Y) (y : Y) → slice_get xs n ≡ Some x → ys ≡ map f (take n xs) → y ≡ f x → ys ++ y ∷ [] ≡ map f (take (n + 1) xs)
one_name_more f xs n x ys y e is val =
    ap (λ zs. zs ++ y ∷ []) is ∙ ap (λ z. map f (take n xs) ++ z ∷ []) val ∙ sym (ap (λ k. map f (take k xs)) (add-one n) ∙ ap (map f) (take_next xs n x e) ∙ map-append f (take n xs) (x ∷ []))
