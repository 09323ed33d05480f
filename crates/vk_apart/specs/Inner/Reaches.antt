-- What an argument lets a call reach, and when two of them meet.
use Rattle.std.specs.Prelude.{ℕ, ◌==◌, ◌/◌, ◌%◌, ◌^◌, Bool, true, false, ◌&&◌, List, Option, Some, None, ℤ}
use Rattle.std.specs.Int.{w32, cast_signed}
use Rattle.vk_kinds.specs.declared.heads.CType.{CType}
use Rattle.vk_kinds.specs.declared.heads.CType.TheVariants.{Void, Int, Ptr}
use Rattle.vk_meaning.specs.World.{Array, array_at}
use Rattle.vk_meaning.specs.Data.{element_at}
use Rattle.vk_meaning.specs.Types.{type_at}
use Rattle.vk_meaning.specs.Lanes.{Words}
use Rattle.vk_apart.specs.declared.reach.Reach.{Reach}
use Rattle.vk_apart.specs.declared.reach.Reach.TheVariants.{Nothing, Cell, Whole}

-- an element of an array, or none
abbrev pub reach_element : (array : ℕ) → Option ℕ → Reach
reach_element array None = Nothing
reach_element array (Some index) = Cell array index

abbrev pub reach_below : (array length : ℕ) → (offset : ℤ) → Reach
reach_below array length offset = reach_element array (element_at length offset)

-- a pointer to elements that may be written, or only read
abbrev pub reach_at : List Array → (written : Bool) → (array : ℕ) → (offset : ℤ) → Reach
reach_at arrays true array offset = reach_below array (array_at arrays array).length offset
reach_at arrays false array offset = Whole array

abbrev pub reach_of : List Array → CType → (word : ℕ) → Reach
reach_of arrays Void w = Nothing
reach_of arrays (Int t) w = Nothing
reach_of arrays (Ptr to written) w = reach_at arrays written (w / 2 ^ 32) (cast_signed w32 (w % 2 ^ 32))

-- one cell that may be written is the other, or lies in the array that is read
abbrev pub meet : Reach → Reach → Bool
meet Nothing other = false
meet (Cell a c) Nothing = false
meet (Cell a c) (Cell b d) = (a == b) && (c == d)
meet (Cell a c) (Whole b) = a == b
meet (Whole a) Nothing = false
meet (Whole a) (Cell b d) = a == b
meet (Whole a) (Whole b) = false

-- what a parameter's argument reaches in a lane
abbrev pub reach : List CType → List Array → Words → (parameter lane : ℕ) → Reach
reach ts arrays words p lane = reach_of arrays (type_at ts p) (words p lane)
