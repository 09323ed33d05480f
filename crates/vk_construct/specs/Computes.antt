-- Code of an expression, in one lane.
use Rattle.std.specs.Prelude.{◌≡◌, ◌≢◌, ℕ, ◌<◌, true, false, None, Some, Result, Ok, Err}
use Rattle.vk_types.specs.declared.types.Stop.{Stop}
use Rattle.vk_kinds.specs.declared.heads.CType.{CType}
use Rattle.vk_meaning.specs.World.{World}
use Rattle.vk_meaning.specs.Data.{Datum, Value, got, halts}
use Rattle.vk_meaning.specs.Statements.{State, Evaluation}
use Rattle.vk_meaning.specs.Lanes.{datum_of}
use Rattle.vk_lane.specs.Places.{Share, Place, IsFine, reg_type}
use Rattle.vk_lane.specs.Pieces.{Stays}

-- ---- variables

-- the visible variables: how many there are, and the register and type of each
pub record Table : Type 0 where
  pub count : ℕ
  pub reg : (variable : ℕ) → ℕ
  pub ty : (variable : ℕ) → CType

-- each has a register of its own below d, of its type
pub record IsTable (x : Place) (tb : Table) (d : ℕ) : Type 0 where
  pub below : (k : ℕ) → k < tb.count → tb.reg k < d
  pub apart : (k l : ℕ) → k < tb.count → l < tb.count → k ≢ l → tb.reg k ≢ tb.reg l
  pub typed : (k : ℕ) → k < tb.count → reg_type x (tb.reg k) ≡ tb.ty k

-- the lane has the scalar run's variables and world
pub record Holds (tb : Table) (s : State) (h : Share) : Type 0 where
  pub variables : (k : ℕ) → k < tb.count → s.variables k ≡ datum_of (tb.ty k) (h.lane.reg (tb.reg k))
  pub world : s.world ≡ h.world

-- ---- what a lane keeps

-- registers below d and masks below f are as before, and the lane goes on with this world
pub record Keeps (d f : ℕ) (w : World) (h h' : Share) : Type 0 where
  pub going : h'.lane.stop ≡ None
  pub regs : (r : ℕ) → r < d → h'.lane.reg r ≡ h.lane.reg r
  pub masks : (m : ℕ) → m < f → h'.lane.on m ≡ h.lane.on m
  pub world : h'.world ≡ w

-- what code under mask m does to a lane that has stopped, or is not in the mask: there no register changes
pub record Idles (m f : ℕ) (h h' : Share) : Type 0 where
  pub gone : (z : Stop) → h.lane.stop ≡ Some z → Stays z h.world h'
  pub off : h.lane.stop ≡ None → h.lane.on m ≡ false → (d : ℕ) → Keeps d f h.world h h'

-- ---- values

-- the word is the datum's, and a pointer may be used
pub record Has (x : Place) (j : ℕ) (t : CType) (datum : Datum) (w : ℕ) : Type 0 where
  pub is : datum ≡ datum_of t w
  pub fine : IsFine x j t datum

-- the lane has the value in register r, or stops as the value does
abbrev pub Gives : Place → (lane : ℕ) → CType → (r d f : ℕ) → (before after : Share) → Value → Type 0
Gives x j t r d f h h' (got datum w) = Keeps d f w h h' × Has x j t datum (h'.lane.reg r)
Gives x j t r d f h h' (halts z w) = Stays z w h'

-- under mask m the value comes into register r, whose type is t
pub record Computes (x : Place) (tb : Table) (e : Evaluation) (t : CType) (r m d f j : ℕ) (h h' : Share) : Type 0 where
  pub gone : (z : Stop) → h.lane.stop ≡ Some z → Stays z h.world h'
  pub off : h.lane.stop ≡ None → h.lane.on m ≡ false → (dk : ℕ) → Keeps dk f h.world h h'
  pub runs : (s : State) → h.lane.stop ≡ None → h.lane.on m ≡ true → Holds tb s h → Gives x j t r d f h h' (e s.variables s.world)

-- what an instruction writes is the value's word, or the value's stop
abbrev pub Answers : Place → (lane : ℕ) → CType → Value → World → Result ℕ Stop → Type 0
Answers x j t v w (Ok word) = (datum : Datum) × (v ≡ got datum w) × Has x j t datum word
Answers x j t v w (Err z) = v ≡ halts z w
