-- Code as lists, without pointers.
use Rattle.std.specs.Prelude.{ℕ, Bool, List, length, map, Option, Some, None, slice_get}
use Rattle.vk_kinds.specs.declared.heads.CType.{CType}
use Rattle.vk_kinds.specs.Types.{ctype_number}
use Rattle.vk_code.specs.declared.code.Code.{Code, out-Code}
use Rattle.vk_code.specs.declared.code.Guard.{Guard}
use Rattle.vk_code.specs.declared.code.LoopSite.{LoopSite}
use Rattle.vk_code.specs.declared.code.Body.{Body, Own', Number}
use Rattle.vk_code.specs.declared.code.Slot.{Slot}
use Rattle.vk_code.specs.declared.code.SlotArg.{SlotArg}
use Rattle.vk_code.specs.declared.instruction.Instr.{Instr}

-- ---- the lists

-- a call
pub record CallSite : Type 0 where
  pub function : ℕ
  pub always : Bool
  pub result : Option ℕ
  pub args : List SlotArg

-- code without its simd loops, of which it has so many
pub record Routine : Type 0 where
  pub lane_code : Bool
  pub params : ℕ
  pub result : Option ℕ
  pub regs : List CType
  pub masks : ℕ
  pub slots : List CallSite
  pub loops : ℕ
  pub instrs : List Instr

-- the body of a simd loop: its code, whose own loops are never run, or the number of its code
pub data LoopBody : Type 0 where
  own : (routine : Routine) → LoopBody
  numbered : (number : ℕ) → LoopBody

-- a simd loop
pub record SimdSite : Type 0 where
  pub simdlen : Option ℕ
  pub low : ℕ
  pub high : ℕ
  pub captures : List ℕ
  pub guards : List Guard
  pub body : LoopBody

-- code
pub record Listing : Type 0 where
  pub routine : Routine
  pub loops : List SimdSite

-- ---- those of a code

abbrev pub call_site_of : Slot → CallSite
call_site_of s = record { function = s.function; always = s.always; result = s.result; args = s.args.items }

abbrev pub routine_of : Code → Routine
routine_of code =
    let c = out-Code code in
    record {
      lane_code = c.lane_code;
      params = c.params;
      result = c.result;
      regs = c.regs.items;
      masks = c.masks;
      slots = map call_site_of c.slots.items;
      loops = length c.loops.items;
      instrs = c.instrs.items;
    }

abbrev pub body_of : Body → LoopBody
body_of (Own' p code) = own (routine_of code)
body_of (Number n) = numbered n

abbrev pub simd_site_of : LoopSite → SimdSite
simd_site_of l = record { simdlen = l.simdlen; low = l.low; high = l.high; captures = l.captures.items; guards = l.guards.items; body = body_of l.body }

abbrev pub listing_of : Code → Listing
listing_of code = record { routine = routine_of code; loops = map simd_site_of (out-Code code).loops.items }

-- the number of the code that a loop names
abbrev pub numbered_code : LoopBody → Option ℕ
numbered_code (own routine) = None
numbered_code (numbered number) = Some number

-- ---- types of registers

-- the number of a type, 255 where there is none
abbrev pub number_of_some : Option CType → ℕ
number_of_some None = 255
number_of_some (Some c) = ctype_number c

-- the number of a register's type, 255 where there is no such register
abbrev pub reg_type : List CType → ℕ → ℕ
reg_type regs r = number_of_some (slice_get regs r)
