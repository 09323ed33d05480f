-- What a buffer of texts holds.
use Rattle.std.specs.Prelude.{◌≡◌, ℕ, ◌≤◌, List, [], ◌∷◌, length, take, drop}

-- the texts of these lengths, one behind another
abbrev pub pieces : List ℕ → List ℕ → List (List ℕ)
pieces [] bytes = []
pieces (n ∷ ns) bytes = take n bytes ∷ pieces ns (drop n bytes)

-- they are all of the bytes
abbrev pub Fill : List ℕ → List ℕ → Type 0
Fill [] bytes = bytes ≡ []
Fill (n ∷ ns) bytes = (n ≤ length bytes) × Fill ns (drop n bytes)
