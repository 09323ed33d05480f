-- What the code of one entry gives.
use Rattle.std.specs.Prelude.{ℕ, Bool, []}
use Rattle.vk_meaning.specs.Lanes.{Words}
use Rattle.vk_code.specs.Listing.{Listing}
use Rattle.vk_object.specs.Machine.{Given, runs}
use Rattle.vk_object.specs.Memory.{Memory}
use Rattle.vk_one_image.specs.Tables.{tables_of}

-- no array has a word
abbrev pub no_memory : Memory
no_memory = record { cells = λ a i. 0; log = [] }

-- a call of it alone, in so many lanes
unfoldable pub ran : Listing → (turns lanes : ℕ) → (mask : ℕ → Bool) → Words → Given
ran c turns lanes mask words = runs (tables_of lanes c) turns 0 mask words no_memory
