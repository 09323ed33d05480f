-- The numbers of arrays by their names.
use Rattle.std.specs.Prelude.{◌≡◌, ℕ, List, length, position, bytes_eq}
use Rattle.vk_meaning.specs.World.{Array}
use Rattle.vk_reading_rows.specs.declared.numbers.ArrayNumbers.{ArrayNumbers}
use Rattle.vk_reading_rows.specs.Inner.Noted.{noted}

-- the number of the first array with a name is noted there, and how many arrays there are
pub record IsNumbering (arrays : List Array) (n : ArrayNumbers) : Type 0 where
  pub number : (text : List ℕ) → noted n.by_text text ≡ position (λ a. bytes_eq a.text text) arrays
  pub count : n.count ≡ length arrays
