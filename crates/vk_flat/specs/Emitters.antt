-- What an emitter has written, and what its methods add.
use Rattle.std.specs.Prelude.{◌≡◌, ℕ, ◌+◌, ◌≤◌, max, true, false, [], ◌∷◌, ◌++◌, length, map, Some, ℤ, Result}
use Rattle.vk_types.specs.declared.types.Stop.{Stop}
use Rattle.vk_types.specs.declared.types.Ty.{Ty}
use Rattle.vk_types.specs.declared.types.Op2.{Op2}
use Rattle.vk_types.specs.Formats.{type_number}
use Rattle.vk_kinds.specs.declared.heads.CType.TheVariants.{Int}
use Rattle.vk_code.specs.declared.instruction.Instr.{Instr}
use Rattle.vk_code.specs.declared.instruction.Operation.{Operation}
use Rattle.vk_code.specs.Instruction.{IsArithmetic, operation_of}
use Rattle.vk_code.specs.Listing.{call_site_of}
use Rattle.vk_code.specs.Valid.{is_promoted, is_shift}
use Rattle.vk_lane.specs.Places.{Share}
use Rattle.vk_construct.specs.Adds.{Adds, AddsNumber, HasType, Splits, Written}
use Rattle.vk_flat.specs.declared.emitter.Emitter.{Emitter}
use Rattle.vk_flat.specs.declared.emitter.Place.{Place}
use Rattle.vk_flat.specs.declared.emitter.Under.{Under}

-- ---- what has been written

abbrev pub written_of : Emitter → Written
written_of e = record { params = e.params; regs = e.regs.items; masks = e.masks; slots = map call_site_of e.slots.items; instrs = e.instrs.items }

-- with one register more
abbrev pub with_register : Written → Ty → Written
with_register w t = record w { regs = w.regs ++ Int t ∷ [] }

-- with at least so many masks
abbrev pub with_masks : Written → ℕ → Written
with_masks w n = record w { masks = max w.masks n }

-- with one instruction more
abbrev pub with_instr : Written → Instr → Written
with_instr w i = record w { instrs = w.instrs ++ i ∷ [] }

-- an instruction with this operation has come behind, under mask m
pub record HasPut (old new : Written) (m : ℕ) (o : Operation) : Type 0 where
  pub instr : Instr
  pub mask : instr.m ≡ m
  pub operation : operation_of instr ≡ Some o
  pub written : new ≡ with_instr old instr

-- ---- registers

-- a register of the type that it is said to have
abbrev pub IsPlace : Written → Place → Type 0
IsPlace w a = HasType w a.register a.ty

-- ---- operators

-- a type that integer promotions keep
abbrev pub IsPromoted : Ty → Type 0
IsPromoted t = is_promoted (type_number t) ≡ true

-- operands of these types go with the operator, which is no comparison: a shift takes any on its right
pub record IsOperator (op : Op2) (s t : Ty) : Type 0 where
  pub arithmetic : IsArithmetic op
  pub right : is_shift op ≡ false → t ≡ s

-- ---- what comes

-- what `result` tells of a lane's registers comes into register d, in at most so many instructions
pub record Brings (old new : Written) (result : Share → Result ℤ Stop) (d : Place) (u : Under) (size : ℕ) : Type 0 where
  pub code : AddsNumber old new result d.ty d.register u.mask (length old.regs) u.free size
  pub place : IsPlace new d

-- the same into a register that was there, behind the first k ones
abbrev pub BringsInto : (old new : Written) → (Share → Result ℤ Stop) → Place → Under → (size : ℕ) → Type 0
BringsInto old new result d u size = (k : ℕ) → k ≤ d.register → AddsNumber old new result d.ty d.register u.mask k u.free size

-- as many parameters and masks, the same calls, and at most so many registers more
pub record HasBase (old new : Emitter) (more : ℕ) : Type 0 where
  pub params : new.params ≡ old.params
  pub slots : (written_of new).slots ≡ (written_of old).slots
  pub masks : new.masks ≡ old.masks
  pub least : length old.regs.items ≤ length new.regs.items
  pub most : length new.regs.items ≤ length old.regs.items + more

-- ---- two cases

-- under the mask of the first case, and under that of the second
abbrev pub first_case : Under → Under
first_case u = record { mask = u.free; free = u.free + 2 }

abbrev pub second_case : Under → Under
second_case u = record { mask = u.free + 1; free = u.free + 2 }

-- the lanes are split by the number in `a`, and there is a new register for the result of both cases
pub record HasCases (old new : Written) (a d : Place) (u : Under) : Type 0 where
  pub code : Adds old new (Splits u.mask u.free a.register) 2 0
  pub place : IsPlace new d
  pub above : length old.regs ≤ d.register
