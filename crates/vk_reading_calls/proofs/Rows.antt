-- What stands at a place in units and items as they are seen.
use Rattle.std.proofs.Common.{◌≡◌, ℕ, zero, suc, List, [], ◌∷◌, map, slice_get, Option, refl, ap, ◌∙◌}
use Rattle.std.specs.Option.{option_map}

at_one : {X Y : Type 0} (f : X → Y) (xs : List X) (k : ℕ) → slice_get (map f xs) k ≡ option_map f (slice_get xs k)
at_one f [] k = refl
at_one f (x ∷ xs) zero = refl
at_one f (x ∷ xs) (suc k) = at_one f xs k

pub at_seen : {X Y : Type 0} (f : X → Y) (xs : List X) (k : ℕ) (o : Option X) → slice_get xs k ≡ o → slice_get (map f xs) k ≡ option_map f o
at_seen f xs k o e = at_one f xs k ∙ ap (option_map f) e
