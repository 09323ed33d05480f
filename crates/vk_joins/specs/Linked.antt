-- A code of an image, beside the code of an object that it is made of: objects have become arrays, a slot tells how many arguments it
-- has, and a loop names its body.
use Rattle.std.specs.Prelude.{◌≡◌, ℕ, ◌*◌, ◌^◌, map, length, slice_get, Option, Some}
use Rattle.vk_code.specs.declared.instruction.Instr.{Instr}
use Rattle.vk_code.specs.declared.instruction.Operation.{Operation}
use Rattle.vk_code.specs.declared.instruction.Operation.TheVariants.{Addr}
use Rattle.vk_code.specs.Instruction.{operation_of}
use Rattle.vk_code.specs.Listing.{CallSite, Listing, SimdSite}

-- an object's number becomes the array's
abbrev pub with_array : (array : ℕ → ℕ) → Instr → Option Operation → Instr
with_array array i (Some (Addr d n)) = record { op = i.op; ty = i.ty; m = i.m; d = i.d; a = i.a; imm = array n * 2 ^ 32 }
with_array array i _ = i

abbrev pub linked_instr : (array : ℕ → ℕ) → Instr → Instr
linked_instr array i = with_array array i (operation_of i)

pub record IsLinkedSlot (s t : CallSite) : Type 0 where
  pub arguments : t.function ≡ length s.args
  pub always : t.always ≡ s.always
  pub result : t.result ≡ s.result
  pub args : t.args ≡ s.args

pub record IsLinkedSite (s t : SimdSite) : Type 0 where
  pub simdlen : t.simdlen ≡ s.simdlen
  pub low : t.low ≡ s.low
  pub high : t.high ≡ s.high
  pub captures : t.captures ≡ s.captures
  pub guards : t.guards ≡ s.guards

-- c is the object's code, t the image's; `array` has the array's number for each object's
pub record IsLinked (array : ℕ → ℕ) (c t : Listing) : Type 0 where
  pub lane_code : t.routine.lane_code ≡ c.routine.lane_code
  pub params : t.routine.params ≡ c.routine.params
  pub result : t.routine.result ≡ c.routine.result
  pub regs : t.routine.regs ≡ c.routine.regs
  pub masks : t.routine.masks ≡ c.routine.masks
  pub instrs : t.routine.instrs ≡ map (linked_instr array) c.routine.instrs
  pub slot_count : length t.routine.slots ≡ length c.routine.slots
  pub slots : (k : ℕ) (s made : CallSite) → slice_get c.routine.slots k ≡ Some s → slice_get t.routine.slots k ≡ Some made → IsLinkedSlot s made
  pub loop_count : length t.loops ≡ length c.loops
  pub loops : (k : ℕ) (s made : SimdSite) → slice_get c.loops k ≡ Some s → slice_get t.loops k ≡ Some made → IsLinkedSite s made
