-- A code as a whole, as it is called: on lanes, on one lane alone, or for a chunk of a simd loop.
use Rattle.std.specs.Prelude.{◌≡◌, ℕ, ◌<◌, nat_lt, not, Bool, true, false, ◌&&◌, List, [], ◌++◌, length, Contains, ℤ, pos, ◌+ℤ◌, Option, Some, None}
use Rattle.vk_types.specs.declared.types.Stop.{Stop}
use Rattle.vk_kinds.specs.declared.heads.CType.{CType}
use Rattle.vk_meaning.specs.World.{Array, array_at, Memory as Cells, Event}
use Rattle.vk_meaning.specs.Data.{Value, got, halts, element_at}
use Rattle.vk_meaning.specs.Types.{is_pointer_type, is_written_type, type_at}
use Rattle.vk_meaning.specs.Meaning.{printed_numbers}
use Rattle.vk_meaning.specs.Expressions.{Context}
use Rattle.vk_meaning.specs.Lanes.{Words, arguments_of, datum_of, IsWord, NamesCell}
use Rattle.vk_object.specs.Memory.{Memory, Event as Logged, printed as prints_of}
use Rattle.vk_object.specs.Machine.{Site, first_lane, word_in}
use Rattle.vk_lane.specs.Runs.{Bodies, IsQuiet, HaveRisen, one_lane}
use Rattle.vk_lane.specs.Places.{Share, Place}
use Rattle.vk_lane.specs.Pieces.{Stays}

-- ---- calls

-- what a simd loop stores through: elements of an array, of which that of iteration 0 is the one at the offset
pub record Stored : Type 0 where
  pub array : ℕ
  pub offset : ℤ

-- how code is called
pub data Mode : Type 0 where
  -- the lanes of this mask, for a function with directives
  on_lanes : (mask : ℕ → Bool) → Mode
  -- one lane, for a function without directives
  alone : Mode
  -- all lanes for the body of a simd loop, the first of them for this iteration
  chunk : (stored : List Stored) → (first : ℤ) → Mode

-- A run of code. It is of data alone, so that contracts may speak of all runs.
pub record LaneCall : Type 0 where
  pub context : Context
  pub site : Site
  pub bodies : Bodies
  pub mode : Mode
  -- the types of the parameters, their words, and the memory
  pub types : List CType
  pub words : Words
  pub memory : Memory

-- ---- the place of a call

abbrev pub active_in : Mode → (lanes lane : ℕ) → Bool
active_in (on_lanes mask) lanes j = nat_lt j lanes && mask j
active_in alone lanes j = one_lane j
active_in (chunk stored first) lanes j = nat_lt j lanes

-- a pointer that is stored through in a simd loop is used in no lane as it is, only moved to the lane's element
abbrev pub is_usable : Mode → CType → Bool
is_usable (on_lanes mask) t = true
is_usable alone t = true
is_usable (chunk stored first) t = not (is_written_type t)

-- the element of a stored array with this iteration's number
pub record OwnsElement (arrays : List Array) (stored : List Stored) (iteration : ℤ) (array index : ℕ) : Type 0 where
  pub base : Stored
  pub among : Contains stored base
  pub same_array : base.array ≡ array
  pub element : element_at (array_at arrays array).length (base.offset +ℤ iteration) ≡ Some index

-- a cell is a lane's own where a written pointer of the lane's arguments names it; one lane alone owns all
abbrev pub Owns : Mode → List Array → List CType → Words → (lanes lane array index : ℕ) → Type 0
Owns (on_lanes mask) arrays ts words lanes j a i = (j < lanes) × (mask j ≡ true) × NamesCell ts arrays (arguments_of ts words j) a i
Owns alone arrays ts words lanes j a i = j ≡ 0
Owns (chunk stored first) arrays ts words lanes j a i = (j < lanes) × OwnsElement arrays stored (first +ℤ pos j) a i

-- one lane alone may print, and its prints are those of its scalar run
abbrev pub Tells : Mode → Bodies → (before after : List Logged) → List Event → Type 0
Tells (on_lanes mask) b before after es = IsQuiet b before after
Tells alone b before after es = prints_of after ≡ prints_of before ++ printed_numbers es
Tells (chunk stored first) b before after es = IsQuiet b before after

-- it may also run simd loops
abbrev pub Counts : Mode → Bodies → (before after : List Logged) → List Event → Type 0
Counts (on_lanes mask) b before after es = Unit {0}
Counts alone b before after es = HaveRisen b before after es
Counts (chunk stored first) b before after es = Unit {0}

-- where one of these stops, nothing is said of the memory
abbrev pub CaresFor : Mode → Option Stop → Type 0
CaresFor (on_lanes mask) stop = Unit {0}
CaresFor alone stop = stop ≡ None
CaresFor (chunk stored first) stop = Unit {0}

-- pointer parameters stay as they were passed
abbrev pub place_of : LaneCall → Place
place_of q = record {
  context = q.context;
  site = q.site;
  active = active_in q.mode q.site.entry.lanes;
  fixed = λ r. nat_lt r (length q.types) && is_pointer_type (type_at q.types r);
  words = q.words;
  usable = λ r. nat_lt r (length q.types) && is_pointer_type (type_at q.types r) && is_usable q.mode (type_at q.types r);
  start = q.memory.cells;
  Own = Owns q.mode q.context.arrays q.types q.words q.site.entry.lanes;
  Told = λ log es. Tells q.mode q.bodies q.memory.log log es;
  Counted = λ log es. Counts q.mode q.bodies q.memory.log log es;
  Cares = CaresFor q.mode;
}

-- ---- how a call begins and ends

-- the share with which a lane begins
abbrev pub first_share : Site → (mask : ℕ → Bool) → Words → Cells → (lane : ℕ) → Share
first_share s mask words m j =
    record { lane = first_lane s.entry.lanes s.code.routine.params words mask j; world = record { memory = m; events = [] } }

-- the lane has ended as the scalar function does
abbrev pub EndsAs : CType → (result : Option ℕ) → Share → Value → Type 0
EndsAs rt result h' (got d w) =
    (h'.lane.stop ≡ None) × (d ≡ datum_of rt (word_in result h'.lane)) × IsWord rt (word_in result h'.lane) × (h'.world ≡ w)
EndsAs rt result h' (halts z w) = Stays z w h'

-- each active lane has, and the others have no stop
pub record IsWhole (rt : CType) (result : Option ℕ) (active : ℕ → Bool) (scalar : (lane : ℕ) → Value) (j : ℕ) (h' : Share) : Type 0 where
  pub ends : active j ≡ true → EndsAs rt result h' (scalar j)
  pub idle : active j ≡ false → h'.lane.stop ≡ None
