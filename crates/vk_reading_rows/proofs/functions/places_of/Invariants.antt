use Rattle.std.proofs.Common.{◌≡◌, ℕ, List, Some, take}
use Rattle.std.specs.Option.{option_map}
use Rattle.vk_reading_rows.specs.Objects.{subjects_of}
use Rattle.vk_reading_rows.specs.Inner.Noted.{noted}
use Rattle.vk_reading_rows.specs.Functions.{first_place}
use Rattle.vk_reading_rows.proofs.functions.places_of.Given as goal

abbrev pub invariant-loop-number : goal.invariant-loop-number
invariant-loop-number l = (t : List ℕ) → noted l.table t ≡ option_map Some (first_place 0 (subjects_of (take l.number l.units)) t)
