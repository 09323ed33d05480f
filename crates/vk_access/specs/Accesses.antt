-- What a lane and the cells are after a load or a store.
use Rattle.std.specs.Prelude.{◌≡◌, ℕ, ◌==◌, ◌&&◌, cond, Bool, true, false, ℤ, Option, Some, None}
use Rattle.vk_types.specs.declared.types.Stop.TheVariants.{Bounds}
use Rattle.vk_types.specs.declared.types.Ty.{Ty}
use Rattle.vk_types.specs.declared.types.Word.{Word}
use Rattle.vk_code.specs.declared.instruction.Operation.{Operation}
use Rattle.vk_code.specs.declared.instruction.Operation.TheVariants.{Load, Store, Print}
use Rattle.vk_types.specs.Numbers.{number_of, word_of, wrap_number}
use Rattle.vk_object.specs.Lane.{LaneState, with_stop}
use Rattle.vk_object.specs.Memory.{Cell}
use Rattle.vk_access.specs.declared.store.CellPlace.{CellPlace}

-- the word of the element in the cell, converted to the type
abbrev pub element_at : (ℕ → ℕ → ℕ) → Ty → Option Cell → Option ℕ
element_at cells t None = None
element_at cells t (Some c) = Some (word_of (wrap_number t (number_of c.ty (cells c.array c.index))))

abbrev pub IsElement : Option Word → Option ℕ → Type 0
IsElement None o = o ≡ None
IsElement (Some w) o = o ≡ Some w.0

-- a lane that stores stops where there is no cell
abbrev pub storing : LaneState → Option Cell → LaneState
storing l None = with_stop l Bounds
storing l (Some c) = l

abbrev pub put_cell : (ℕ → ℕ → ℕ) → ℕ → ℕ → ℕ → ℕ → ℕ → ℕ
put_cell cells array index w a i = cond ((a == array) && (i == index)) w (cells a i)

-- the cell gets the number, converted to its type
abbrev pub stored_cells : (ℕ → ℕ → ℕ) → ℤ → Option Cell → ℕ → ℕ → ℕ
stored_cells cells n None = cells
stored_cells cells n (Some c) = put_cell cells c.array c.index (word_of (wrap_number c.ty n))

-- where an element stands, if there is one
abbrev pub IsCell : Option CellPlace → Option Cell → Type 0
IsCell None o = o ≡ None
IsCell (Some c) o = o ≡ Some (record { array = c.array; index = c.index; ty = c.ty })

-- it reads or writes an element, or prints
abbrev pub is_access : Operation → Bool
is_access (Load d a) = true
is_access (Store a b) = true
is_access (Print a) = true
is_access o = false
