-- The operators of an instruction's operation.
use Rattle.std.proofs.Common.{◌≡◌, ℕ, zero, suc, Bool, true, false, cond, Option, Some, None, refl}
use Rattle.std.specs.Option.{option_and_then, option_map}
use Rattle.vk_types.specs.declared.types.Ty.{Ty}
use Rattle.vk_types.specs.declared.types.Ty.TheVariants.{I32}
use Rattle.vk_types.specs.declared.types.Op1.{Op1}
use Rattle.vk_types.specs.declared.types.Op2.{Op2}
use Rattle.vk_types.specs.declared.types.Op2.TheVariants.{Add, Sub, Mul, Div, Rem, And, Or, Xor, Shl, Shr, Eq, Ne, Lt, Le}
use Rattle.vk_types.specs.Operators.{result_type}
use Rattle.vk_code.specs.declared.instruction.Instr.{Instr}
use Rattle.vk_code.specs.declared.instruction.Operation.{Operation}
use Rattle.vk_code.specs.declared.instruction.Operation.TheVariants.{Binary, Compare, Const, Unary}
use Rattle.vk_code.specs.declared.opcode.Opcode.{Opcode}
use Rattle.vk_code.specs.declared.opcode.Opcode.TheVariants.{Const as OpConst, Copy as OpCopy, Convert as OpConvert, Binary as OpBinary, Compare as OpCompare, Unary as OpUnary, Lane as OpLane, Load as OpLoad, Store as OpStore, PtrAdd as OpPtrAdd, Addr as OpAddr, MaskOf as OpMaskOf, MaskAnd as OpMaskAnd, MaskOr as OpMaskOr, MaskBut as OpMaskBut, Loop as OpLoop, Call as OpCall, Print as OpPrint, SimdLoop as OpSimdLoop}
use Rattle.vk_code.specs.Instruction.{IsArithmetic, IsComparison, comparison_numbered, fields_of, has_zeros, opcode_numbered, operation_by, operation_of, operation_with, operator_numbered, type_numbered, unary_numbered}

-- the operator is one of the instruction's
abbrev pub HasOperator : Operation → Type 0
HasOperator (Binary op t d a b) = IsArithmetic op
HasOperator (Compare op t d a b) = IsComparison op
HasOperator o = Unit {0}

abbrev pub HasSomeOperator : Option Operation → Type 0
HasSomeOperator None = Unit {0}
HasSomeOperator (Some o) = HasOperator o

abbrev IfOp : (Op2 → Type 0) → Option Op2 → Type 0
IfOp P None = Unit {0}
IfOp P (Some op) = P op

arithmetic : (n : ℕ) → IfOp IsArithmetic (operator_numbered n)
arithmetic zero = tt
arithmetic (suc zero) = tt
arithmetic (suc (suc zero)) = tt
arithmetic (suc (suc (suc zero))) = tt
arithmetic (suc (suc (suc (suc zero)))) = tt
arithmetic (suc (suc (suc (suc (suc zero))))) = tt
arithmetic (suc (suc (suc (suc (suc (suc zero)))))) = tt
arithmetic (suc (suc (suc (suc (suc (suc (suc zero))))))) = tt
arithmetic (suc (suc (suc (suc (suc (suc (suc (suc zero)))))))) = tt
arithmetic (suc (suc (suc (suc (suc (suc (suc (suc (suc zero))))))))) = tt
arithmetic (suc (suc (suc (suc (suc (suc (suc (suc (suc (suc n)))))))))) = tt

comparison : (n : ℕ) → IfOp IsComparison (comparison_numbered n)
comparison zero = tt
comparison (suc zero) = tt
comparison (suc (suc zero)) = tt
comparison (suc (suc (suc zero))) = tt
comparison (suc (suc (suc (suc n)))) = tt

binary_has : (d a b : ℕ) (t : Option Ty) (op : Option Op2) → IfOp IsArithmetic op → HasSomeOperator (option_and_then (λ u. option_map (λ o. Binary o u d a b) op) t)
binary_has d a b None op h = tt
binary_has d a b (Some t) None h = tt
binary_has d a b (Some t) (Some op) h = h

compare_has : (d a b : ℕ) (t : Option Ty) (op : Option Op2) → IfOp IsComparison op → HasSomeOperator (option_and_then (λ u. option_map (λ o. Compare o u d a b) op) t)
compare_has d a b None op h = tt
compare_has d a b (Some t) None h = tt
compare_has d a b (Some t) (Some op) h = h

const_has : (i : Instr) (t : Option Ty) → HasSomeOperator (option_map (λ u. Const u i.d (record { 0 = i.imm })) t)
const_has i None = tt
const_has i (Some t) = tt

unary_has : (d a : ℕ) (t : Option Ty) (op : Option Op1) → HasSomeOperator (option_and_then (λ u. option_map (λ o. Unary o u d a) op) t)
unary_has d a None op = tt
unary_has d a (Some t) None = tt
unary_has d a (Some t) (Some op) = tt

opcode_has : (o : Opcode) (i : Instr) → HasSomeOperator (operation_by o i)
opcode_has OpConst i = const_has i (type_numbered i.ty)
opcode_has OpCopy i = tt
opcode_has OpConvert i = tt
opcode_has OpBinary i = binary_has i.d i.a _ (type_numbered i.ty) (operator_numbered _) (arithmetic _)
opcode_has OpCompare i = compare_has i.d i.a _ (type_numbered i.ty) (comparison_numbered _) (comparison _)
opcode_has OpUnary i = unary_has i.d i.a (type_numbered i.ty) (unary_numbered _)
opcode_has OpLane i = tt
opcode_has OpLoad i = tt
opcode_has OpStore i = tt
opcode_has OpPtrAdd i = tt
opcode_has OpAddr i = tt
opcode_has OpMaskOf i = tt
opcode_has OpMaskAnd i = tt
opcode_has OpMaskOr i = tt
opcode_has OpMaskBut i = tt
opcode_has OpLoop i = tt
opcode_has OpCall i = tt
opcode_has OpPrint i = tt
opcode_has OpSimdLoop i = tt

with_has : (i : Instr) (o : Option Opcode) → HasSomeOperator (operation_with i o)
with_has i None = tt
with_has i (Some opcode) = either (has_zeros (fields_of opcode) i)
  where
    either : (b : Bool) → HasSomeOperator (cond b (operation_by opcode i) None)
    either true = opcode_has opcode i
    either false = tt

-- an instruction's operation has one of its operators
pub has_operator : (i : Instr) → HasSomeOperator (operation_of i)
has_operator i = with_has i (opcode_numbered i.op)

pub arithmetic_type : (op : Op2) → IsArithmetic op → (t : Ty) → result_type op t ≡ t
arithmetic_type Add h t = refl
arithmetic_type Sub h t = refl
arithmetic_type Mul h t = refl
arithmetic_type Div h t = refl
arithmetic_type Rem h t = refl
arithmetic_type And h t = refl
arithmetic_type Or h t = refl
arithmetic_type Xor h t = refl
arithmetic_type Shl h t = refl
arithmetic_type Shr h t = refl
arithmetic_type Eq h t = absurd h
arithmetic_type Ne h t = absurd h
arithmetic_type Lt h t = absurd h
arithmetic_type Le h t = absurd h

pub comparison_type : (op : Op2) → IsComparison op → (t : Ty) → result_type op t ≡ I32
comparison_type Add h t = absurd h
comparison_type Sub h t = absurd h
comparison_type Mul h t = absurd h
comparison_type Div h t = absurd h
comparison_type Rem h t = absurd h
comparison_type And h t = absurd h
comparison_type Or h t = absurd h
comparison_type Xor h t = absurd h
comparison_type Shl h t = absurd h
comparison_type Shr h t = absurd h
comparison_type Eq h t = refl
comparison_type Ne h t = refl
comparison_type Lt h t = refl
comparison_type Le h t = refl
