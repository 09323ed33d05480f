-- Where code runs, seen lane by lane: each lane has its own copy of the world.
use Rattle.std.specs.Prelude.{◌≡◌, ◌≢◌, ℕ, ◌<◌, ◌==◌, Bool, true, false, cond, List, map, slice_get, Option, Some, None}
use Rattle.vk_types.specs.declared.types.Stop.{Stop}
use Rattle.vk_kinds.specs.declared.heads.CType.{CType}
use Rattle.vk_kinds.specs.declared.heads.CType.TheVariants.{Void, Int, Ptr}
use Rattle.vk_meaning.specs.World.{Array, Event, World, Memory as Cells}
use Rattle.vk_meaning.specs.Data.{Datum, array_of, named_element}
use Rattle.vk_meaning.specs.Expressions.{Context}
use Rattle.vk_meaning.specs.Lanes.{Words, datum_of, IsWord, IsPointed}
use Rattle.vk_object.specs.Memory.{Memory, Event as Logged, Extent}
use Rattle.vk_object.specs.Lane.{LaneState, View}
use Rattle.vk_object.specs.Machine.{Site, World as Machine}

-- ---- shares

-- one lane of a frame, and the world as the scalar run of this lane has it
pub record Share : Type 0 where
  pub lane : LaneState
  pub world : World

abbrev pub Shares : Type 0
Shares = (lane : ℕ) → Share

-- the machine with these lanes and this memory
abbrev pub machine_of : Shares → Memory → Machine
machine_of hs m = record { lane = λ j. (hs j).lane; mem = m }

abbrev pub view_of : Share → Memory → View
view_of h m = record { lane = h.lane; mem = m }

abbrev pub put_share : Shares → ℕ → Share → Shares
put_share hs j h i = cond (i == j) h (hs i)

-- ---- places

pub record Place : Type 1 where
  -- the scalar meaning
  pub context : Context
  -- the machine
  pub site : Site
  -- the lanes that the call has switched on
  pub active : ℕ → Bool
  -- the registers that the code never writes, and their words by register and lane
  pub fixed : ℕ → Bool
  pub words : Words
  -- of these, the registers whose pointers may be used as they are
  pub usable : ℕ → Bool
  -- the memory of the call
  pub start : Cells
  -- the cells that are a lane's own
  pub Own : (lane array index : ℕ) → Type 0
  -- what the log has to do with a lane's events, always, and where the lane's copy of the world counts
  pub Told : List Logged → List Event → Type 0
  pub Counted : List Logged → List Event → Type 0
  -- whether a lane's copy of the world counts where the lane has ended so: other lanes of a loop's body may have stored meanwhile
  pub Cares : Option Stop → Type 0

abbrev pub lanes_of : Place → ℕ
lanes_of x = x.site.entry.lanes

-- no other lane owns the cell
abbrev pub IsVisible : Place → (lane array index : ℕ) → Type 0
IsVisible x j a i = (k : ℕ) → k < lanes_of x → k ≢ j → x.Own k a i → ⊥

-- what is known of a datum in lane j: a pointer that may be written through names a cell of the lane's own, and one that may only be
-- read through an array of which no other lane owns a cell
abbrev pub IsFine : Place → (lane : ℕ) → CType → Datum → Type 0
IsFine x j Void d = Unit {0}
IsFine x j (Int t) d = Unit {0}
IsFine x j (Ptr to true) d = (i : ℕ) → named_element x.context.arrays d ≡ Some i → x.Own j (array_of d) i
IsFine x j (Ptr to false) d = (i : ℕ) → IsVisible x j (array_of d) i

abbrev pub type_in : Option CType → CType
type_in None = Void
type_in (Some t) = t

-- the type of a register
abbrev pub reg_type : Place → (register : ℕ) → CType
reg_type x r = type_in (slice_get x.site.code.routine.regs r)

abbrev pub extent_of : Array → Extent
extent_of a = record { ty = a.ty; length = a.length }

-- what the scalar meaning and the machine have in common there
pub record IsPlace (x : Place) : Type 0 where
  pub extents : x.site.arrays ≡ map extent_of x.context.arrays
  pub turns : x.site.turns ≡ x.context.turns
  pub apart : (i j a c : ℕ) → i ≢ j → x.Own i a c → x.Own j a c → ⊥
  pub cares : x.Cares None
  pub stays : (r : ℕ) → x.usable r ≡ true → x.fixed r ≡ true
  pub fine : (j r : ℕ) → x.active j ≡ true → x.usable r ≡ true → IsFine x j (reg_type x r) (datum_of (reg_type x r) (x.words r j))
  pub pointed : (j r : ℕ) → x.active j ≡ true → x.fixed r ≡ true → IsPointed x.context.arrays (reg_type x r) (datum_of (reg_type x r) (x.words r j))

-- ---- what holds all the time

-- the word of every register is one of its type, what is never written is as it was, and a lane that is not active is in no mask
pub record IsSound (x : Place) (j : ℕ) (h : Share) : Type 0 where
  pub typed : (r : ℕ) → IsWord (reg_type x r) (h.lane.reg r)
  pub kept : (r : ℕ) → x.fixed r ≡ true → h.lane.reg r ≡ x.words r j
  pub idle : x.active j ≡ false → (m : ℕ) → h.lane.on m ≡ false

-- the machine's memory has what each lane's copy has, where the lane sees it
pub record Agree (x : Place) (hs : Shares) (m : Memory) : Type 0 where
  pub cells : (j : ℕ) → j < lanes_of x → x.Cares (hs j).lane.stop → (a i : ℕ) → IsVisible x j a i → m.cells a i ≡ (hs j).world.memory a i
  pub others : (a i : ℕ) → ((j : ℕ) → j < lanes_of x → x.Own j a i → ⊥) → m.cells a i ≡ x.start a i
  pub told : (j : ℕ) → j < lanes_of x → x.Told m.log (hs j).world.events
  pub counted : (j : ℕ) → j < lanes_of x → x.Cares (hs j).lane.stop → x.Counted m.log (hs j).world.events
