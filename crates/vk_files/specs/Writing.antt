-- Writing a file.
use Rattle.std.specs.Prelude.{◌≡◌, ◌⊎◌, ℕ, List, Option, Some}
use Rattle.vk_io.specs.Whole.{IsFront}

-- the file is as it was, or it holds a front of the text, perhaps all of it and perhaps nothing
abbrev pub HoldsFront : (text : List ℕ) → (old new : Option (List ℕ)) → Type 0
HoldsFront text old new = (new ≡ old) ⊎ ((front : List ℕ) × (new ≡ Some front) × IsFront (Some text) front)
