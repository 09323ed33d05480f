-- Members of two lists, two by two, where the first is made of another.
use Rattle.std.proofs.Common.{◌≡◌, Bool, ◌&&◌, List, [], ◌∷◌, map, refl, ap}
use Rattle.vk_code.specs.Tests.{pairs}

pub pairs-map_first : {A B C : Type 0} (p : B → C → Bool) (g : A → B) (xs : List A) (ys : List C) → pairs p (map g xs) ys ≡ pairs (λ x y. p (g x) y) xs ys
pairs-map_first p g [] [] = refl
pairs-map_first p g [] (y ∷ ys) = refl
pairs-map_first p g (x ∷ xs) [] = refl
pairs-map_first p g (x ∷ xs) (y ∷ ys) = ap (λ b. p (g x) y && b) (pairs-map_first p g xs ys)
