-- What an instruction does in one lane.
use Rattle.std.specs.Prelude.{ℕ, ◌*◌, ◌^◌, ◌==◌, Bool, not, ◌&&◌, ◌||◌, cond, ℤ, List, Option, Some, None, is_none, Result, Ok, Err, slice_get}
use Rattle.vk_types.specs.declared.types.Ty.{Ty}
use Rattle.vk_types.specs.declared.types.Ty.TheVariants.{I64}
use Rattle.vk_types.specs.declared.types.Stop.{Stop}
use Rattle.vk_types.specs.declared.types.Stop.TheVariants.{Bounds, Turns}
use Rattle.vk_types.specs.Numbers.{number_of, word_of, wrap_number}
use Rattle.vk_types.specs.Operators.{op1_number, op2_number}
use Rattle.vk_kinds.specs.declared.heads.CType.{CType}
use Rattle.vk_kinds.specs.declared.heads.CType.TheVariants.{Void, Int, Ptr}
use Rattle.vk_code.specs.declared.instruction.Operation.{Operation}
use Rattle.vk_code.specs.declared.instruction.Operation.TheVariants.{Const, Copy, Convert, Binary, Compare, Unary, Lane, Load, Store, PtrAdd, Addr, MaskOf, MaskAnd, MaskOr, MaskBut, Print}
use Rattle.vk_object.specs.Memory.{Memory, Prints, Cell, Extent, cell_of, logged, moved, with_cell}

-- a lane: the pattern in each register, whether it is on in each mask, and the stop that ended it, if one did
pub record LaneState : Type 0 where
  pub reg : ℕ → ℕ
  pub on : ℕ → Bool
  pub stop : Option Stop

-- a lane and the memory
pub record View : Type 0 where
  pub lane : LaneState
  pub mem : Memory

-- it is on in mask m and has not stopped
abbrev pub is_live : ℕ → LaneState → Bool
is_live m l = l.on m && is_none l.stop

abbrev pub with_reg : LaneState → ℕ → ℕ → LaneState
with_reg l d w = record { reg = λ r. cond (r == d) w (l.reg r); on = l.on; stop = l.stop }

abbrev pub with_mask : LaneState → ℕ → Bool → LaneState
with_mask l d b = record { reg = l.reg; on = λ m. cond (m == d) b (l.on m); stop = l.stop }

abbrev pub with_stop : LaneState → Stop → LaneState
with_stop l x = record { reg = l.reg; on = l.on; stop = Some x }

abbrev pub gives : View → ℕ → ℕ → View
gives v d w = record { lane = with_reg v.lane d w; mem = v.mem }

abbrev pub stops : View → Stop → View
stops v x = record { lane = with_stop v.lane x; mem = v.mem }

-- a register gets the number, or the lane stops
abbrev pub gives_result : View → ℕ → Result ℤ Stop → View
gives_result v d (Ok z) = gives v d (word_of z)
gives_result v d (Err x) = stops v x

abbrev pub gives_pointer : View → ℕ → Option ℕ → View
gives_pointer v d None = stops v Bounds
gives_pointer v d (Some p) = gives v d p

-- the number in the cell, as one of the type t
abbrev pub loads : View → ℕ → Ty → Option Cell → View
loads v d t None = stops v Bounds
loads v d t (Some c) = gives v d (word_of (wrap_number t (number_of c.ty (v.mem.cells c.array c.index))))

-- the cell gets the number n, as one of its type
abbrev pub stores : View → ℤ → Option Cell → View
stores v n None = stops v Bounds
stores v n (Some c) = record { lane = v.lane; mem = with_cell v.mem c.array c.index (word_of (wrap_number c.ty n)) }

-- the type of the numbers of a register: its own, or that of what a pointer points to
abbrev pub element_of : Option CType → Ty
element_of None = I64
element_of (Some Void) = I64
element_of (Some (Int t)) = t
element_of (Some (Ptr t written)) = t

abbrev pub ty_at : List CType → ℕ → Ty
ty_at regs r = element_of (slice_get regs r)

-- the number in a register
abbrev pub number_at : List CType → LaneState → ℕ → ℤ
number_at regs l r = number_of (ty_at regs r) (l.reg r)

-- one operation in lane j, which is live in its mask
abbrev pub works : List Extent → List CType → ℕ → Operation → View → View
works arrays regs j (Const t d value) v = gives v d value.0
works arrays regs j (Copy d a) v = gives v d (v.lane.reg a)
works arrays regs j (Convert d a) v = gives v d (word_of (wrap_number (ty_at regs d) (number_at regs v.lane a)))
works arrays regs j (Binary op t d a b) v = gives_result v d (op2_number op t (number_of t (v.lane.reg a)) (number_at regs v.lane b))
works arrays regs j (Compare op t d a b) v = gives_result v d (op2_number op t (number_of t (v.lane.reg a)) (number_of t (v.lane.reg b)))
works arrays regs j (Unary op t d a) v = gives v d (word_of (op1_number op t (number_of t (v.lane.reg a))))
works arrays regs j (Lane d) v = gives v d j
works arrays regs j (Load d a) v = loads v d (ty_at regs d) (cell_of arrays (v.lane.reg a))
works arrays regs j (Store a b) v = stores v (number_at regs v.lane b) (cell_of arrays (v.lane.reg a))
works arrays regs j (PtrAdd d a b) v = gives_pointer v d (moved (v.lane.reg a) (number_at regs v.lane b))
works arrays regs j (Addr d object) v = gives v d (object * 2 ^ 32)
works arrays regs j (Print a) v = record { lane = v.lane; mem = logged (Prints (number_of I64 (v.lane.reg a))) v.mem }
works arrays regs j o v = v

abbrev pub masked : View → ℕ → Bool → View
masked v d b = record { lane = with_mask v.lane d b; mem = v.mem }

-- one operation under mask m in lane j: masks are set whole, all else happens in live lanes alone
abbrev pub acts : List Extent → List CType → ℕ → ℕ → Operation → View → View
acts arrays regs m j (MaskOf d a) v = masked v d (is_live m v.lane && not (v.lane.reg a == 0))
acts arrays regs m j (MaskAnd d a b) v = masked v d (v.lane.on a && v.lane.on b)
acts arrays regs m j (MaskOr d a b) v = masked v d (v.lane.on a || v.lane.on b)
acts arrays regs m j (MaskBut d a b) v = masked v d (v.lane.on a && not (v.lane.on b))
acts arrays regs m j o v = cond (is_live m v.lane) (works arrays regs j o v) v

-- the lane stops where it is live in mask m
abbrev pub out_of_turns : ℕ → LaneState → LaneState
out_of_turns m l = cond (is_live m l) (with_stop l Turns) l
