-- Code that an emitter appends: that it is good, and what it does wherever the finished code runs.
use Rattle.std.specs.Prelude.{◌≡◌, ◌≢◌, ℕ, zero, ◌+◌, ◌<◌, ◌≤◌, ◌==◌, ◌&&◌, not, true, List, [], ◌∷◌, ◌++◌, length, Some, slice_get, ℤ, Result}
use Rattle.vk_types.specs.declared.types.Stop.{Stop}
use Rattle.vk_types.specs.declared.types.Ty.{Ty}
use Rattle.vk_kinds.specs.declared.heads.CType.{CType}
use Rattle.vk_kinds.specs.declared.heads.CType.TheVariants.{Int}
use Rattle.vk_meaning.specs.Types.{type_at}
use Rattle.vk_meaning.specs.Expressions.{Context}
use Rattle.vk_meaning.specs.Statements.{Evaluation}
use Rattle.vk_code.specs.declared.instruction.Instr.{Instr}
use Rattle.vk_code.specs.Listing.{CallSite, Routine}
use Rattle.vk_code.specs.Tests.{all_good}
use Rattle.vk_code.specs.Valid.{Environment, instr_verdicts}
use Rattle.vk_object.specs.Lane.{is_live}
use Rattle.vk_lane.specs.Places.{Share, IsPlace, reg_type}
use Rattle.vk_lane.specs.Pieces.{Change, Always, Does}
use Rattle.vk_lane.specs.Writes.{Masks}
use Rattle.vk_lane.specs.Entries.{LaneCall, place_of}
use Rattle.vk_construct.specs.Computes.{Table, Computes}
use Rattle.vk_construct.specs.Applies.{Applies}

-- ---- what has been written

-- the parameters are the first registers
pub record Written : Type 0 where
  pub params : ℕ
  pub regs : List CType
  pub masks : ℕ
  pub slots : List CallSite
  pub instrs : List Instr

-- the finished code has these registers, masks and slots, and perhaps more
pub record Finishes (c : Routine) (w : Written) : Type 0 where
  pub regs : (k : ℕ) (t : CType) → slice_get w.regs k ≡ Some t → slice_get c.regs k ≡ Some t
  pub masks : w.masks ≤ c.masks
  pub slots : (k : ℕ) (s : CallSite) → slice_get w.slots k ≡ Some s → slice_get c.slots k ≡ Some s

-- and it runs here
pub record HasWritten (q : LaneCall) (w : Written) : Type 0 where
  pub place : IsPlace (place_of q)
  pub params : length q.types ≡ w.params
  pub types : (r : ℕ) → r < length q.types → reg_type (place_of q) r ≡ type_at q.types r
  pub code : Finishes q.site.code.routine w

-- ---- pieces

-- code is good with this piece before it that is good behind it, where blocks may still nest so deep
abbrev pub IsGoodPiece : Environment → Routine → (depth : ℕ) → List Instr → Type 0
IsGoodPiece e c depth piece = (rest : List Instr) (n k room : ℕ) → k ≡ length piece + n → depth ≤ room →
    all_good (instr_verdicts e c room rest zero n) ≡ true → all_good (instr_verdicts e c room (piece ++ rest) zero k) ≡ true

-- A piece has come behind, of at most `size` instructions, with loops at most `depth` deep, which does F in each lane of every run.
pub record Adds (old new : Written) (F : LaneCall → Change) (size depth : ℕ) : Type 0 where
  pub piece : List Instr
  pub types : List CType
  pub calls : List CallSite
  pub instrs : new.instrs ≡ old.instrs ++ piece
  pub regs : new.regs ≡ old.regs ++ types
  pub slots : new.slots ≡ old.slots ++ calls
  pub masks : old.masks ≤ new.masks
  pub params : new.params ≡ old.params
  pub good : (e : Environment) (c : Routine) → Finishes c new → IsGoodPiece e c depth piece
  pub does : (q : LaneCall) → HasWritten q new → Does (place_of q) Always piece (F q)
  pub short : length piece ≤ size

-- one instruction has come behind, and registers of these types
pub record Puts (old new : Written) (i : Instr) (types : List CType) : Type 0 where
  pub instrs : new.instrs ≡ old.instrs ++ i ∷ []
  pub regs : new.regs ≡ old.regs ++ types
  pub slots : new.slots ≡ old.slots
  pub masks : old.masks ≤ new.masks
  pub params : new.params ≡ old.params

-- ---- expressions

-- a register of an integer type
abbrev pub HasType : Written → (register : ℕ) → Ty → Type 0
HasType w r t = slice_get w.regs r ≡ Some (Int t)

-- every variable has a register of its own below k, of its type
pub record IsTableOf (w : Written) (tb : Table) (k : ℕ) : Type 0 where
  pub typed : (v : ℕ) → v < tb.count → slice_get w.regs (tb.reg v) ≡ Some (tb.ty v)
  pub below : (v : ℕ) → v < tb.count → tb.reg v < k
  pub apart : (u v : ℕ) → u < tb.count → v < tb.count → u ≢ v → tb.reg u ≢ tb.reg v

-- Under mask m a number comes into register d, as the lane's registers tell it. Registers below k are kept, masks from f on are free.
abbrev pub AddsNumber : (old new : Written) → (Share → Result ℤ Stop) → Ty → (d m k f size : ℕ) → Type 0
AddsNumber old new result t d m k f size = Adds old new (λ q. Applies result t d m k f) size 0

-- the same for the value of an expression
abbrev pub AddsValue : (old new : Written) → Table → (Context → Evaluation) → CType → (r m k f size : ℕ) → Type 0
AddsValue old new tb e t r m k f size = Adds old new (λ q. Computes (place_of q) tb (e q.context) t r m k f) size 0

-- ---- masks

-- mask f has the lanes of mask m where register r is not 0
abbrev pub TestsOn : (m f r : ℕ) → LaneCall → Change
TestsOn m f r q = Masks f (λ h. is_live m h.lane && not (h.lane.reg r == 0))

-- mask d has the lanes of mask a that are not in mask b
abbrev pub LeavesOut : (d a b : ℕ) → LaneCall → Change
LeavesOut d a b q = Masks d (λ h. h.lane.on a && not (h.lane.on b))

-- mask f has the lanes of mask m where register r is not 0, and mask f + 1 the others of m
abbrev pub Splits : (m f r : ℕ) → LaneCall → Change
Splits m f r q j h h' = (mid : Share) × TestsOn m f r q j h mid × LeavesOut (f + 1) m f q j mid h'
