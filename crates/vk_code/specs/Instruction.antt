-- The table of instructions: which operation the fields of an instruction stand for.
use Rattle.std.specs.Prelude.{◌≡◌, ℕ, ◌/◌, ◌%◌, ◌^◌, ◌==◌, Bool, true, false, ◌&&◌, ◌||◌, cond, List, [], ◌∷◌, Option, Some, None, Result, Ok, Err, slice_get}
use Rattle.std.specs.Option.{option_and_then, option_map}
use Rattle.vk_types.specs.declared.types.Ty.{Ty}
use Rattle.vk_types.specs.declared.types.Ty.TheVariants.{I8, I16, I32, I64, U8, U16, U32, U64}
use Rattle.vk_types.specs.declared.types.Op1.{Op1}
use Rattle.vk_types.specs.declared.types.Op1.TheVariants.{Neg, Not}
use Rattle.vk_types.specs.declared.types.Op2.{Op2}
use Rattle.vk_types.specs.declared.types.Op2.TheVariants.{Add, Sub, Mul, Div, Rem, And, Or, Xor, Shl, Shr, Eq, Ne, Lt, Le}
use Rattle.vk_code.specs.declared.instruction.Instr.{Instr}
use Rattle.vk_code.specs.declared.instruction.Operation.{Operation}
use Rattle.vk_code.specs.declared.instruction.Operation.TheVariants.{Const, Copy, Convert, Binary, Compare, Unary, Lane, Load, Store, PtrAdd, Addr, MaskOf, MaskAnd, MaskOr, MaskBut, Loop, Call, Print, SimdLoop}
use Rattle.vk_code.specs.declared.opcode.Fields.{Fields}
use Rattle.vk_code.specs.declared.opcode.Opcode.{Opcode}
use Rattle.vk_code.specs.declared.opcode.Opcode.TheVariants.{Const as OpConst, Copy as OpCopy, Convert as OpConvert, Binary as OpBinary, Compare as OpCompare, Unary as OpUnary, Lane as OpLane, Load as OpLoad, Store as OpStore, PtrAdd as OpPtrAdd, Addr as OpAddr, MaskOf as OpMaskOf, MaskAnd as OpMaskAnd, MaskOr as OpMaskOr, MaskBut as OpMaskBut, Loop as OpLoop, Call as OpCall, Print as OpPrint, SimdLoop as OpSimdLoop}
use Rattle.vk_code.specs.declared.opcode.UnknownOpcode.{UnknownOpcode}

-- ---- numbers

-- the types, by their numbers
abbrev pub types : List Ty
types = I8 ∷ I16 ∷ I32 ∷ I64 ∷ U8 ∷ U16 ∷ U32 ∷ U64 ∷ []

-- the operators of Binary, by their numbers
abbrev pub operators : List Op2
operators = Add ∷ Sub ∷ Mul ∷ Div ∷ Rem ∷ And ∷ Or ∷ Xor ∷ Shl ∷ Shr ∷ []

-- the operators of Compare, by their numbers
abbrev pub comparisons : List Op2
comparisons = Eq ∷ Ne ∷ Lt ∷ Le ∷ []

-- the operators of Unary, by their numbers
abbrev pub unaries : List Op1
unaries = Neg ∷ Not ∷ []

-- the instructions, by their numbers
abbrev pub opcodes : List Opcode
opcodes = OpConst ∷ OpCopy ∷ OpConvert ∷ OpBinary ∷ OpCompare ∷ OpUnary ∷ OpLane ∷ OpLoad ∷ OpStore ∷ OpPtrAdd ∷ OpAddr ∷ OpMaskOf ∷ OpMaskAnd ∷ OpMaskOr ∷ OpMaskBut ∷ OpLoop ∷ OpCall ∷ OpPrint ∷ OpSimdLoop ∷ []

abbrev pub type_numbered : ℕ → Option Ty
type_numbered n = slice_get types n

abbrev pub operator_numbered : ℕ → Option Op2
operator_numbered n = slice_get operators n

abbrev pub comparison_numbered : ℕ → Option Op2
comparison_numbered n = slice_get comparisons n

abbrev pub unary_numbered : ℕ → Option Op1
unary_numbered n = slice_get unaries n

abbrev pub opcode_numbered : ℕ → Option Opcode
opcode_numbered n = slice_get opcodes n

-- the instruction with this number, or that there is none
abbrev pub IsOpcodeOf : ℕ → Result Opcode UnknownOpcode → Type 0
IsOpcodeOf n (Ok opcode) = opcode_numbered n ≡ Some opcode
IsOpcodeOf n (Err unknown) = (opcode_numbered n ≡ None) × (unknown.0 ≡ n)

-- the operator is one of Binary; comparisons are another instruction's
abbrev pub IsArithmetic : Op2 → Type 0
IsArithmetic Eq = ⊥
IsArithmetic Ne = ⊥
IsArithmetic Lt = ⊥
IsArithmetic Le = ⊥
IsArithmetic op = Unit {0}

-- the operator is one of Compare
abbrev pub IsComparison : Op2 → Type 0
IsComparison Eq = Unit {0}
IsComparison Ne = Unit {0}
IsComparison Lt = Unit {0}
IsComparison Le = Unit {0}
IsComparison op = ⊥

-- ---- fields

-- the parts of an immediate
abbrev pub field_b : ℕ → ℕ
field_b imm = imm % 2 ^ 16

abbrev pub field_c : ℕ → ℕ
field_c imm = imm / 2 ^ 16 % 2 ^ 16

abbrev pub field_x : ℕ → ℕ
field_x imm = imm / 2 ^ 32

-- the mask alone
abbrev pub mask_alone : Fields
mask_alone = record { ty = false; m = true; d = false; a = false; b = false; c = false; x = false }

-- the fields that an instruction uses
abbrev pub fields_of : Opcode → Fields
fields_of OpConst = record mask_alone { ty = true; d = true; b = true; c = true; x = true }
fields_of OpCopy = record mask_alone { d = true; a = true }
fields_of OpConvert = record mask_alone { d = true; a = true }
fields_of OpBinary = record mask_alone { ty = true; d = true; a = true; b = true; x = true }
fields_of OpCompare = record mask_alone { ty = true; d = true; a = true; b = true; x = true }
fields_of OpUnary = record mask_alone { ty = true; d = true; a = true; x = true }
fields_of OpLane = record mask_alone { d = true }
fields_of OpLoad = record mask_alone { d = true; a = true }
fields_of OpStore = record mask_alone { a = true; b = true }
fields_of OpPtrAdd = record mask_alone { d = true; a = true; b = true }
fields_of OpAddr = record mask_alone { d = true; x = true }
fields_of OpMaskOf = record mask_alone { d = true; a = true }
fields_of OpMaskAnd = record mask_alone { m = false; d = true; a = true; b = true }
fields_of OpMaskOr = record mask_alone { m = false; d = true; a = true; b = true }
fields_of OpMaskBut = record mask_alone { m = false; d = true; a = true; b = true }
fields_of OpLoop = record mask_alone { x = true }
fields_of OpCall = record mask_alone { x = true }
fields_of OpPrint = record mask_alone { a = true }
fields_of OpSimdLoop = record mask_alone { x = true }

-- the fields that are not used are 0
abbrev pub has_zeros : Fields → Instr → Bool
has_zeros used i =
    (used.ty || (i.ty == 0)) && (used.m || (i.m == 0)) && (used.d || (i.d == 0)) && (used.a || (i.a == 0))
    && (used.b || (field_b i.imm == 0)) && (used.c || (field_c i.imm == 0)) && (used.x || (field_x i.imm == 0))

-- ---- operations

-- what the fields stand for, by the instruction
abbrev pub operation_by : Opcode → Instr → Option Operation
operation_by OpConst i = option_map (λ t. Const t i.d (record { 0 = i.imm })) (type_numbered i.ty)
operation_by OpCopy i = Some (Copy i.d i.a)
operation_by OpConvert i = Some (Convert i.d i.a)
operation_by OpBinary i = option_and_then (λ t. option_map (λ op. Binary op t i.d i.a (field_b i.imm)) (operator_numbered (field_x i.imm))) (type_numbered i.ty)
operation_by OpCompare i = option_and_then (λ t. option_map (λ op. Compare op t i.d i.a (field_b i.imm)) (comparison_numbered (field_x i.imm))) (type_numbered i.ty)
operation_by OpUnary i = option_and_then (λ t. option_map (λ op. Unary op t i.d i.a) (unary_numbered (field_x i.imm))) (type_numbered i.ty)
operation_by OpLane i = Some (Lane i.d)
operation_by OpLoad i = Some (Load i.d i.a)
operation_by OpStore i = Some (Store i.a (field_b i.imm))
operation_by OpPtrAdd i = Some (PtrAdd i.d i.a (field_b i.imm))
operation_by OpAddr i = Some (Addr i.d (field_x i.imm))
operation_by OpMaskOf i = Some (MaskOf i.d i.a)
operation_by OpMaskAnd i = Some (MaskAnd i.d i.a (field_b i.imm))
operation_by OpMaskOr i = Some (MaskOr i.d i.a (field_b i.imm))
operation_by OpMaskBut i = Some (MaskBut i.d i.a (field_b i.imm))
operation_by OpLoop i = Some (Loop (field_x i.imm))
operation_by OpCall i = Some (Call (field_x i.imm))
operation_by OpPrint i = Some (Print i.a)
operation_by OpSimdLoop i = Some (SimdLoop (field_x i.imm))

abbrev pub operation_with : Instr → Option Opcode → Option Operation
operation_with i None = None
operation_with i (Some opcode) = cond (has_zeros (fields_of opcode) i) (operation_by opcode i) None

abbrev pub operation_of : Instr → Option Operation
operation_of i = operation_with i (opcode_numbered i.op)

-- how many instructions its block has, where the instruction has one
abbrev pub block_in : Option Operation → Option ℕ
block_in (Some (Loop count)) = Some count
block_in o = None

abbrev pub block_of : Instr → Option ℕ
block_of i = block_in (operation_of i)

-- an instruction can have this operation in this mask: the operator is one of the instruction's, and instructions on masks
-- alone have no mask of their own
abbrev pub IsEncodable : ℕ → Operation → Type 0
IsEncodable m (Binary op t d a b) = IsArithmetic op
IsEncodable m (Compare op t d a b) = IsComparison op
IsEncodable m (MaskAnd d a b) = m ≡ 0
IsEncodable m (MaskOr d a b) = m ≡ 0
IsEncodable m (MaskBut d a b) = m ≡ 0
IsEncodable m o = Unit {0}
