-- Reading a whole file.
use Rattle.std.specs.Prelude.{◌≡◌, ℕ, ◌<◌, List, [], ◌++◌, length, Option, None, Some}
use Rattle.vk_io.specs.declared.outside.Outside.{Outside}
use Rattle.vk_io.specs.declared.outside.Outside.TheVariants as outside
use Rattle.vk_io.specs.declared.whole.WholeFail.{WholeFail}
use Rattle.vk_io.specs.declared.whole.WholeFail.TheVariants as whole

-- what a failure of the outside is to a reader of a whole file
abbrev pub whole_of : Outside → WholeFail
whole_of outside.Failed = whole.Fault
whole_of outside.Memory = whole.Memory

-- the file begins with these bytes, which are none where there is no file
abbrev pub IsFront : Option (List ℕ) → List ℕ → Type 0
IsFront None front = front ≡ []
IsFront (Some bytes) front = (rest : List ℕ) × (bytes ≡ front ++ rest)

-- there is a file, and it is longer than the limit
abbrev pub IsTooLong : Option (List ℕ) → ℕ → Type 0
IsTooLong file limit = (bytes : List ℕ) × (file ≡ Some bytes) × (limit < length bytes)
