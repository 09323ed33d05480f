-- What an instruction does to a lane that reads or writes a cell, or prints: all in the lane's own copy of the world.
use Rattle.std.specs.Prelude.{◌≡◌, ℕ, ◌++◌, List, ◌∷◌, [], true, cond, ℤ, Option, Some, None, Result, Ok, Err}
use Rattle.vk_types.specs.declared.types.Ty.{Ty}
use Rattle.vk_types.specs.declared.types.Stop.{Stop}
use Rattle.vk_types.specs.declared.types.Stop.TheVariants.{Bounds}
use Rattle.vk_types.specs.Numbers.{number_of, word_of, wrap_number}
use Rattle.vk_meaning.specs.World.{Array, array_at, Memory as Cells, Event, printed, with_event, with_cell, in_memory}
use Rattle.vk_meaning.specs.Data.{Datum, array_of}
use Rattle.vk_object.specs.Memory.{Cell, Event as Logged, Prints, cell_of}
use Rattle.vk_object.specs.Lane.{is_live, with_stop}
use Rattle.vk_lane.specs.Places.{Share, Place, lanes_of, IsVisible}
use Rattle.vk_lane.specs.Pieces.{Before, Change}

-- ---- cells

-- the cell that the pointer in register a names, if it names one
abbrev pub cell_at : Place → (register : ℕ) → Share → Option Cell
cell_at x a h = cell_of x.site.arrays (h.lane.reg a)

-- the element that a pointer names, as the machine has it
abbrev pub cell_as : List Array → Datum → (index : Option ℕ) → Option Cell
cell_as arrays d None = None
cell_as arrays d (Some i) = Some (record { array = array_of d; index = i; ty = (array_at arrays (array_of d)).ty })

-- the number in the cell, as one of the type t
abbrev pub load_result : Cells → Ty → Option Cell → Result ℕ Stop
load_result m t None = Err Bounds
load_result m t (Some c) = Ok (word_of (wrap_number t (number_of c.ty (m c.array c.index))))

-- the cell gets the number, as one of its type
abbrev pub stored_share : Share → ℤ → Option Cell → Share
stored_share h n None = record { lane = with_stop h.lane Bounds; world = h.world }
stored_share h n (Some c) =
    record { lane = h.lane; world = in_memory h.world (with_cell h.world.memory c.array c.index (word_of (wrap_number c.ty n))) }

abbrev pub Stores : (mask : ℕ) → (Share → ℤ) → (Share → Option Cell) → Change
Stores m n c j h h' = h' ≡ cond (is_live m h.lane) (stored_share h (n h) (c h)) h

-- a live lane may read the cell that register a names
abbrev pub MayLoad : Place → (mask register : ℕ) → Before
MayLoad x m a j h = is_live m h.lane ≡ true → (c : Cell) → cell_at x a h ≡ Some c → IsVisible x j c.array c.index

-- a live lane may write it
abbrev pub MayStore : Place → (mask register : ℕ) → Before
MayStore x m a j h = is_live m h.lane ≡ true → (c : Cell) → cell_at x a h ≡ Some c → x.Own j c.array c.index

-- ---- prints

-- a live lane has printed the number
abbrev pub printed_share : (mask : ℕ) → Share → ℤ → Share
printed_share m h z = record { lane = h.lane; world = cond (is_live m h.lane) (with_event h.world (printed z)) h.world }

-- one lane alone runs, and what it prints is in the log
pub record TellsPrints (x : Place) : Type 0 where
  pub alone : lanes_of x ≡ 1
  pub told : (log : List Logged) (es : List Event) (z : ℤ) → x.Told log es → x.Told (log ++ Prints z ∷ []) (es ++ printed z ∷ [])
  pub counted : (log : List Logged) (es : List Event) (z : ℤ) → x.Counted log es → x.Counted (log ++ Prints z ∷ []) (es ++ printed z ∷ [])
