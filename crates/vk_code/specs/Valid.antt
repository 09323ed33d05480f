-- Which code is valid: one verdict for each of its parts. Part 0 is the head, then come the slots, the loops and the instructions,
-- each kind in order. Code is valid where each verdict is good, and the first that is not is its fault.
use Rattle.std.specs.Prelude.{◌≡◌, ℕ, zero, suc, ◌+◌, ◌-◌, ◌==◌, nat_lt, nat_le, min, Bool, true, false, not, ◌&&◌, ◌||◌, cond, List, [], ◌∷◌, ◌++◌, length, map, take, Option, Some, None, is_none, Result, Ok, Err, slice_get, int_le}
use Rattle.std.specs.List.{list_all}
use Rattle.vk_types.specs.declared.types.Ty.{Ty}
use Rattle.vk_types.specs.declared.types.Op2.{Op2}
use Rattle.vk_types.specs.declared.types.Op2.TheVariants.{Add, Sub, Mul, Div, Rem, And, Or, Xor, Shl, Shr, Eq, Ne, Lt, Le}
use Rattle.vk_types.specs.Formats.{type_number}
use Rattle.vk_types.specs.Numbers.{number_of}
use Rattle.vk_types.specs.Conversions.{least_of, greatest_of}
use Rattle.vk_kinds.specs.declared.heads.CType.{CType}
use Rattle.vk_kinds.specs.Types.{ctype_number}
use Rattle.vk_code.specs.declared.code.Guard.{Guard}
use Rattle.vk_code.specs.declared.code.Shape.{Shape}
use Rattle.vk_code.specs.declared.code.Shape.TheVariants.{Vector, Uniform, By, Along, Literal, Same}
use Rattle.vk_code.specs.declared.code.SlotArg.{SlotArg}
use Rattle.vk_code.specs.declared.instruction.Instr.{Instr}
use Rattle.vk_code.specs.declared.instruction.Operation.{Operation}
use Rattle.vk_code.specs.declared.instruction.Operation.TheVariants.{Const, Copy, Convert, Binary, Compare, Unary, Lane, Load, Store, PtrAdd, Addr, MaskOf, MaskAnd, MaskOr, MaskBut, Loop, Call, Print, SimdLoop}
use Rattle.vk_code.specs.declared.validity.CodeFault.{CodeFault}
use Rattle.vk_code.specs.declared.env.Env.{Env}
use Rattle.vk_code.specs.declared.env.FunctionHead.{FunctionHead}
use Rattle.vk_code.specs.declared.env.ObjectHead.{ObjectHead}
use Rattle.vk_code.specs.Instruction.{block_of, operation_of}
use Rattle.vk_code.specs.Listing.{CallSite, Listing, LoopBody, own, numbered, Routine, SimdSite, reg_type}
use Rattle.vk_code.specs.Tests.{all_good, first_bad, holds, pairs}

-- ---- what code may name

-- a function: its types, and whether it has directives
pub record Callee : Type 0 where
  pub params : List CType
  pub result : CType
  pub simd : Bool

-- functions and objects; and whether it is the code of an image, whose slots and loops name nothing yet
pub record Environment : Type 0 where
  pub image : Bool
  pub callees : List Callee
  pub objects : List ObjectHead

abbrev pub callee_of : FunctionHead → Callee
callee_of f = record { params = f.head.params.items; result = f.head.result; simd = f.simd }

abbrev pub environment_of : Env → Environment
environment_of env = record { image = env.image; callees = map callee_of env.functions.items; objects = env.objects.items }

-- ---- types, by their numbers

abbrev pub is_integer : ℕ → Bool
is_integer t = nat_lt t 8

-- a pointer whose elements may be written
abbrev pub is_written : ℕ → Bool
is_written t = nat_le 8 t && nat_lt t 16

abbrev pub is_pointer : ℕ → Bool
is_pointer t = nat_le 8 t && nat_lt t 24

-- int, long and their unsigned types
abbrev pub is_promoted : ℕ → Bool
is_promoted t = (t == 2) || (t == 3) || (t == 6) || (t == 7)

-- the pattern is canonical for the type
abbrev pub is_canonical : Ty → ℕ → Bool
is_canonical t w = int_le (least_of t) (number_of t w) && int_le (number_of t w) (greatest_of t)

abbrev pub is_shift : Op2 → Bool
is_shift Add = false
is_shift Sub = false
is_shift Mul = false
is_shift Div = false
is_shift Rem = false
is_shift And = false
is_shift Or = false
is_shift Xor = false
is_shift Shl = true
is_shift Shr = true
is_shift Eq = false
is_shift Ne = false
is_shift Lt = false
is_shift Le = false

-- the right operand of a shift has any integer type, that of another operator the left one's
abbrev pub is_right : Op2 → ℕ → ℕ → Bool
is_right op t b = cond (is_shift op) (is_integer b) (b == t)

-- an object's address: a read pointer where it is const, else a written one
abbrev pub address_type : ObjectHead → ℕ
address_type o = cond o.fixed 16 8 + type_number o.ty

-- ---- instructions

-- mask 0 is never written
abbrev pub is_written_mask : ℕ → ℕ → Bool
is_written_mask masks d = nat_lt 0 d && nat_lt d masks

-- a mask from two others
abbrev pub are_masks : ℕ → ℕ → ℕ → ℕ → Bool
are_masks masks d a b = is_written_mask masks d && nat_lt a masks && nat_lt b masks

-- what a copy may write: the same type, or a read pointer from a written one
abbrev pub is_copy : ℕ → ℕ → Bool
is_copy d a = nat_lt a 24 && ((d == a) || (is_written a && (d == a + 8)))

-- d and a have the promoted type t
abbrev pub are_operands : Routine → ℕ → ℕ → ℕ → Bool
are_operands c t d a = is_promoted t && (reg_type c.regs d == t) && (reg_type c.regs a == t)

-- a and b have the promoted type t, and d is an int
abbrev pub are_compared : Routine → ℕ → ℕ → ℕ → ℕ → Bool
are_compared c t d a b = is_promoted t && (reg_type c.regs d == 2) && (reg_type c.regs a == t) && (reg_type c.regs b == t)

-- a is a pointer to the type of d; a written pointer to that of b
abbrev pub is_load : ℕ → ℕ → Bool
is_load d a = is_integer d && ((a == d + 8) || (a == d + 16))

abbrev pub is_store : ℕ → ℕ → Bool
is_store a b = is_integer b && (a == b + 8)

-- d has the type of the pointer a, and b is an integer
abbrev pub is_moved : ℕ → ℕ → ℕ → Bool
is_moved d a b = is_pointer a && (d == a) && is_integer b

-- an operation has its types, and names what is there
abbrev pub is_typed : Environment → Routine → Operation → Bool
is_typed e c (Const t d value) = (reg_type c.regs d == type_number t) && is_canonical t value.0
is_typed e c (Copy d a) = is_copy (reg_type c.regs d) (reg_type c.regs a)
is_typed e c (Convert d a) = is_integer (reg_type c.regs d) && is_integer (reg_type c.regs a)
is_typed e c (Binary op t d a b) = are_operands c (type_number t) d a && is_right op (type_number t) (reg_type c.regs b)
is_typed e c (Compare op t d a b) = are_compared c (type_number t) d a b
is_typed e c (Unary op t d a) = are_operands c (type_number t) d a
is_typed e c (Lane d) = reg_type c.regs d == 3
is_typed e c (Load d a) = is_load (reg_type c.regs d) (reg_type c.regs a)
is_typed e c (Store a b) = is_store (reg_type c.regs a) (reg_type c.regs b)
is_typed e c (PtrAdd d a b) = is_moved (reg_type c.regs d) (reg_type c.regs a) (reg_type c.regs b)
is_typed e c (Addr d object) = holds (λ o. reg_type c.regs d == address_type o) (slice_get e.objects object)
is_typed e c (MaskOf d a) = is_written_mask c.masks d && is_integer (reg_type c.regs a)
is_typed e c (MaskAnd d a b) = are_masks c.masks d a b
is_typed e c (MaskOr d a b) = are_masks c.masks d a b
is_typed e c (MaskBut d a b) = are_masks c.masks d a b
is_typed e c (Loop count) = true
is_typed e c (Call slot) = nat_lt slot (length c.slots)
is_typed e c (Print a) = not c.lane_code && (reg_type c.regs a == 3)
is_typed e c (SimdLoop number) = not c.lane_code && nat_lt number c.loops

-- an instruction stands for an operation, under a mask that is there
abbrev pub is_good_instr : Environment → Routine → Instr → Bool
is_good_instr e c i = nat_lt i.m c.masks && holds (is_typed e c) (operation_of i)

-- the verdicts of `count` instructions after the first `skip` ones: a block ends inside its block, and blocks nest at most
-- `room` deep
abbrev pub instr_verdicts : Environment → Routine → ℕ → List Instr → ℕ → ℕ → List Bool
instr_verdicts e c room [] skip count = []
instr_verdicts e c room (i ∷ is) (suc skip) count = instr_verdicts e c room is skip count
instr_verdicts e c room (i ∷ is) zero zero = []
instr_verdicts e c room (i ∷ is) zero (suc n) = elim (block_of i) as (λ _. List Bool) [
  | None ↦ is_good_instr e c i ∷ instr_verdicts e c room is zero n
  | Some x ↦ (is_good_instr e c i && nat_le x n && nat_lt 0 room) ∷ (instr_verdicts e c (room - 1) is zero x ++ instr_verdicts e c room is x (n - x))
]

-- ---- the head

-- the register of a result, where there is one
abbrev pub is_result : ℕ → Option ℕ → Bool
is_result registers None = true
is_result registers (Some r) = nat_lt r registers

-- a mask at least; 8192 registers and masks at most; the parameters are registers; the result is one
abbrev pub has_good_registers : Routine → Bool
has_good_registers c = nat_le 1 c.masks && nat_le (length c.regs + c.masks) 8192 && nat_le c.params (length c.regs) && is_result (length c.regs) c.result

-- as many slots, loops and instructions as an object can hold
abbrev pub has_good_counts : Routine → Bool
has_good_counts c = nat_le (length c.slots) 65535 && nat_le c.loops 65535 && nat_le (length c.instrs) 4294967295

-- and each register has a type
abbrev pub is_good_head : Routine → Bool
is_good_head c = has_good_registers c && has_good_counts c && list_all (λ t. nat_lt (ctype_number t) 24) c.regs

-- ---- slots

-- `Along` and `Same` name a parameter
abbrev pub is_good_shape : ℕ → Shape → Bool
is_good_shape params Vector = true
is_good_shape params Uniform = true
is_good_shape params (By step) = true
is_good_shape params (Along p) = nat_lt p params
is_good_shape params (Literal n) = true
is_good_shape params (Same p) = nat_lt p params

-- an argument is a register of a good shape
abbrev pub is_good_arg : Routine → SlotArg → Bool
is_good_arg c a = nat_lt a.reg (length c.regs) && is_good_shape c.params a.shape

-- an argument's register has the parameter's type
abbrev pub is_arg_for : Routine → SlotArg → CType → Bool
is_arg_for c a t = reg_type c.regs a.reg == ctype_number t

-- the number of a result's type, 255 where there is none
abbrev pub result_type : List CType → Option ℕ → ℕ
result_type regs None = 255
result_type regs (Some r) = reg_type regs r

-- the registers have exactly the types of the function; lane code calls only functions with directives
abbrev pub is_call_of : Routine → CallSite → Callee → Bool
is_call_of c s f = pairs (is_arg_for c) s.args f.params && (result_type c.regs s.result == ctype_number f.result) && (not c.lane_code || f.simd)

-- an object's slot names its function, an image's tells its number of arguments
abbrev pub has_callee : Environment → Routine → CallSite → Bool
has_callee e c s = cond e.image (s.function == length s.args) (holds (is_call_of c s) (slice_get e.callees s.function))

-- at most 255 arguments, which are registers of good shapes
abbrev pub has_good_args : Routine → CallSite → Bool
has_good_args c s = nat_le (length s.args) 255 && list_all (is_good_arg c) s.args

abbrev pub is_good_slot : Environment → Routine → CallSite → Bool
is_good_slot e c s = has_good_args c s && is_result (length c.regs) s.result && has_callee e c s

-- ---- loops

-- a power of two from 2 to 256, or none
abbrev pub is_good_simdlen : Option ℕ → Bool
is_good_simdlen None = true
is_good_simdlen (Some n) = (n == 2) || (n == 4) || (n == 8) || (n == 16) || (n == 32) || (n == 64) || (n == 128) || (n == 256)

abbrev pub is_good_guard : Routine → Guard → Bool
is_good_guard c g = is_pointer (reg_type c.regs g.first) && is_pointer (reg_type c.regs g.second)

-- the registers that a body gets: that of its number, and the captures
abbrev pub body_regs : SimdSite → List ℕ
body_regs l = l.low ∷ l.captures

-- the type is the register's
abbrev pub is_type_of : Routine → CType → ℕ → Bool
is_type_of c t r = ctype_number t == reg_type c.regs r

-- the parameters of a body have the types of the registers that it gets: that of its number, and the captures
abbrev pub has_params : Routine → List ℕ → Routine → Bool
has_params c registers b = pairs (is_type_of c) (take b.params b.regs) registers

-- the verdicts of all instructions, whose blocks nest at most 64 deep
abbrev pub body_verdicts : Environment → Routine → List Bool
body_verdicts e c = instr_verdicts e c 64 c.instrs zero (length c.instrs)

-- code without its loops is good: its head, its slots and its instructions
abbrev pub is_good_routine : Environment → Routine → Bool
is_good_routine e c = is_good_head c && all_good (map (is_good_slot e c) c.slots) && all_good (body_verdicts e c)

-- a body: lane code without result and without loops, whose parameters have the types of these registers, and which is valid itself
abbrev pub is_good_body : Environment → Routine → List ℕ → Routine → Bool
is_good_body e c registers b = b.lane_code && is_none b.result && (b.loops == 0) && has_params c registers b && is_good_routine e b

-- an object's loop has its body in it, an image's names it
abbrev pub is_body : Environment → Routine → List ℕ → LoopBody → Bool
is_body e c registers (own b) = not e.image && is_good_body e c registers b
is_body e c registers (numbered n) = e.image

-- ordinary code alone has loops; `low` and `high` have one type of 4 or 8 bytes
abbrev pub has_good_bounds : Routine → SimdSite → Bool
has_good_bounds c l = not c.lane_code && is_good_simdlen l.simdlen && is_promoted (reg_type c.regs l.low) && (reg_type c.regs l.high == reg_type c.regs l.low)

-- as many captures and guards as an object can hold; captures are registers, guards pointers
abbrev pub has_good_captures : Routine → SimdSite → Bool
has_good_captures c l =
    nat_le (length l.captures) 65535 && nat_le (length l.guards) 65535
    && list_all (λ r. nat_lt r (length c.regs)) l.captures && list_all (is_good_guard c) l.guards

abbrev pub is_good_loop : Environment → Routine → SimdSite → Bool
is_good_loop e c l = has_good_bounds c l && has_good_captures c l && is_body e c (body_regs l) l.body

-- ---- the code

-- all verdicts, in the order of the parts
abbrev pub verdicts : Environment → Listing → List Bool
verdicts e c = is_good_head c.routine ∷ (map (is_good_slot e c.routine) c.routine.slots ++ (map (is_good_loop e c.routine) c.loops ++ body_verdicts e c.routine))

abbrev pub IsValid : Environment → Listing → Type 0
IsValid e c = all_good (verdicts e c) ≡ true

-- the number of the first part that is not good
abbrev pub fault_of : Environment → Listing → Option ℕ
fault_of e c = first_bad (verdicts e c)

-- it is told so, a number above 4294967295 as that one
abbrev pub fault_numbered : ℕ → CodeFault
fault_numbered n = record { at = min n 4294967295 }

abbrev pub answer_of : Option ℕ → Result (Unit {0}) CodeFault
answer_of None = Ok tt
answer_of (Some n) = Err (fault_numbered n)
