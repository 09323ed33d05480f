-- Operations on registers and masks alone, lane by lane.
use Rattle.std.specs.Prelude.{ℕ, ◌*◌, ◌^◌, ◌==◌, Bool, true, false, not, ◌&&◌, ◌||◌, cond, ℤ, List, Option, Some, None, Result, Ok, Err}
use Rattle.vk_types.specs.declared.types.Stop.{Stop}
use Rattle.vk_types.specs.declared.types.Stop.TheVariants.{Bounds}
use Rattle.vk_types.specs.Numbers.{number_of, word_of, wrap_number}
use Rattle.vk_types.specs.Operators.{op1_number, op2_number}
use Rattle.vk_kinds.specs.declared.heads.CType.{CType}
use Rattle.vk_code.specs.declared.instruction.Operation.{Operation}
use Rattle.vk_code.specs.declared.instruction.Operation.TheVariants.{Const, Copy, Convert, Binary, Compare, Unary, Lane, Load, Store, PtrAdd, Addr, MaskOf, MaskAnd, MaskOr, MaskBut, Loop, Call, Print, SimdLoop}
use Rattle.vk_object.specs.Lane.{LaneState, is_live, number_at, ty_at, with_mask, with_reg, with_stop}
use Rattle.vk_object.specs.Memory.{moved}

-- it neither reads nor changes the memory, and calls nothing
abbrev pub is_local : Operation → Bool
is_local (Load d a) = false
is_local (Store a b) = false
is_local (Loop count) = false
is_local (Call slot) = false
is_local (Print a) = false
is_local (SimdLoop number) = false
is_local o = true

-- a register gets the number, or the lane stops
abbrev pub with_number : LaneState → ℕ → Result ℤ Stop → LaneState
with_number l d (Ok z) = with_reg l d (word_of z)
with_number l d (Err x) = with_stop l x

-- a register gets the pointer, or the lane stops
abbrev pub with_pointer : LaneState → ℕ → Option ℕ → LaneState
with_pointer l d None = with_stop l Bounds
with_pointer l d (Some p) = with_reg l d p

-- where the lane is live in mask m it becomes k, else it is as before
abbrev pub live_as : ℕ → LaneState → LaneState → LaneState
live_as m l k = cond (is_live m l) k l

-- what such an operation makes of lane j under mask m; all other lanes it leaves as they are
abbrev pub changed : List CType → ℕ → Operation → ℕ → LaneState → LaneState
changed regs m (Const t d value) j l = live_as m l (with_reg l d value.0)
changed regs m (Copy d a) j l = live_as m l (with_reg l d (l.reg a))
changed regs m (Convert d a) j l = live_as m l (with_reg l d (word_of (wrap_number (ty_at regs d) (number_at regs l a))))
changed regs m (Binary op t d a b) j l = live_as m l (with_number l d (op2_number op t (number_of t (l.reg a)) (number_at regs l b)))
changed regs m (Compare op t d a b) j l = live_as m l (with_number l d (op2_number op t (number_of t (l.reg a)) (number_of t (l.reg b))))
changed regs m (Unary op t d a) j l = live_as m l (with_reg l d (word_of (op1_number op t (number_of t (l.reg a)))))
changed regs m (Lane d) j l = live_as m l (with_reg l d j)
changed regs m (PtrAdd d a b) j l = live_as m l (with_pointer l d (moved (l.reg a) (number_at regs l b)))
changed regs m (Addr d object) j l = live_as m l (with_reg l d (object * 2 ^ 32))
changed regs m (MaskOf d a) j l = with_mask l d (is_live m l && not (l.reg a == 0))
changed regs m (MaskAnd d a b) j l = with_mask l d (l.on a && l.on b)
changed regs m (MaskOr d a b) j l = with_mask l d (l.on a || l.on b)
changed regs m (MaskBut d a b) j l = with_mask l d (l.on a && not (l.on b))
changed regs m o j l = l
