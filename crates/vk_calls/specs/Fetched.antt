-- What stands at a place in code.
use Rattle.std.specs.Prelude.{◌≡◌, ℕ, zero, ◌+◌, ◌-◌, ◌<◌, ◌≤◌, true, length, drop, None, Some, slice_get}
use Rattle.vk_code.specs.declared.instruction.Instr.{Instr}
use Rattle.vk_code.specs.declared.instruction.Operation.{Operation}
use Rattle.vk_code.specs.declared.instruction.Operation.TheVariants.{Const, Copy, Convert, Binary, Compare, Unary, Lane, Load, Store, PtrAdd, Addr, MaskOf, MaskAnd, MaskOr, MaskBut, Loop, Call, Print, SimdLoop}
use Rattle.vk_code.specs.Instruction.{block_of}
use Rattle.vk_code.specs.Tests.{all_good}
use Rattle.vk_code.specs.Valid.{instr_verdicts}
use Rattle.vk_object.specs.Images.{names_of}
use Rattle.vk_steps.specs.declared.place.Place.{Place}
use Rattle.vk_steps.specs.Locals.{is_local}
use Rattle.vk_steps.specs.Places.{IsGood, listing, tables}
use Rattle.vk_access.specs.Accesses.{is_access}
use Rattle.vk_calls.specs.declared.fetch.Fetched.{Fetched}
use Rattle.vk_calls.specs.declared.fetch.Fetched.TheVariants.{Block, Calls, Simd, Accesses, Locals}

-- an instruction, by how its operation is performed
abbrev pub sorted : Instr → Operation → Fetched
sorted i (Const t d value) = Locals i (Const t d value)
sorted i (Copy d a) = Locals i (Copy d a)
sorted i (Convert d a) = Locals i (Convert d a)
sorted i (Binary op t d a b) = Locals i (Binary op t d a b)
sorted i (Compare op t d a b) = Locals i (Compare op t d a b)
sorted i (Unary op t d a) = Locals i (Unary op t d a)
sorted i (Lane d) = Locals i (Lane d)
sorted i (Load d a) = Accesses i (Load d a)
sorted i (Store a b) = Accesses i (Store a b)
sorted i (PtrAdd d a b) = Locals i (PtrAdd d a b)
sorted i (Addr d object) = Locals i (Addr d object)
sorted i (MaskOf d a) = Locals i (MaskOf d a)
sorted i (MaskAnd d a b) = Locals i (MaskAnd d a b)
sorted i (MaskOr d a b) = Locals i (MaskOr d a b)
sorted i (MaskBut d a b) = Locals i (MaskBut d a b)
sorted i (Loop count) = Block i.m count
sorted i (Call slot) = Calls i slot
sorted i (Print a) = Accesses i (Print a)
sorted i (SimdLoop number) = Simd i number

-- the `count` instructions from `from` on are good, and their blocks end among them
pub record IsPart (p : Place) (from count : ℕ) : Type 0 where
  pub inside : from + count ≤ length (listing p).routine.instrs
  pub room : ℕ
  pub good : all_good (instr_verdicts (names_of (tables p)) (listing p).routine room (drop from (listing p).routine.instrs) zero count) ≡ true

-- a block of so many instructions under a mask, with `left` instructions before the end, itself counted
pub record IsBlock (p : Place) (at left m size : ℕ) : Type 0 where
  pub instr : Instr
  pub got : slice_get (listing p).routine.instrs at ≡ Some instr
  pub block : block_of instr ≡ Some size
  pub mask_is : instr.m ≡ m
  pub mask : m < (listing p).routine.masks
  pub short : size + 1 ≤ left
  pub inner : IsPart p (at + 1) size
  pub rest : IsPart p (at + 1 + size) (left - 1 - size)

-- an instruction without a block
pub record IsPlain (p : Place) (at left : ℕ) (instr : Instr) (o : Operation) : Type 0 where
  pub got : slice_get (listing p).routine.instrs at ≡ Some instr
  pub plain : block_of instr ≡ None
  pub good : IsGood p instr o
  pub rest : IsPart p (at + 1) (left - 1)

abbrev pub IsFetched : Place → ℕ → ℕ → Fetched → Type 0
IsFetched p at left (Block m size) = IsBlock p at left m size
IsFetched p at left (Calls i slot) = IsPlain p at left i (Call slot)
IsFetched p at left (Simd i number) = IsPlain p at left i (SimdLoop number)
IsFetched p at left (Accesses i o) = IsPlain p at left i o × (is_access o ≡ true)
IsFetched p at left (Locals i o) = IsPlain p at left i o × (is_local o ≡ true)
