-- The value of an operator on operands of these types (C17 6.5.3.3 and 6.5.5 to 6.5.15). Operands are evaluated from left to right,
-- and `&&`, `||` and `?:` evaluate only what they need.
use Rattle.std.specs.Prelude.{Bool, not, ℤ, pos, Result, Ok}
use Rattle.std.specs.Ordering.{int_eq}
use Rattle.vk_types.specs.declared.types.Ty.{Ty}
use Rattle.vk_types.specs.declared.types.Stop.{Stop}
use Rattle.vk_types.specs.declared.types.Op1.TheVariants as ones
use Rattle.vk_types.specs.declared.types.Op2.{Op2}
use Rattle.vk_types.specs.declared.types.Op2.TheVariants as twos
use Rattle.vk_types.specs.Numbers.{wrap_number}
use Rattle.vk_types.specs.Operators.{op1_number, op2_number, truth}
use Rattle.vk_types.specs.Conversions.{common_type, promoted}
use Rattle.vk_ast.specs.declared.expressions.UnOp.{UnOp}
use Rattle.vk_ast.specs.declared.expressions.UnOp.TheVariants.{Plus, Neg, Not, LogNot}
use Rattle.vk_ast.specs.declared.expressions.BinOp.{BinOp}
use Rattle.vk_ast.specs.declared.expressions.BinOp.TheVariants.{Add, Sub, Mul, Div, Rem, And, Or, Xor, Shl, Shr, Eq, Ne, Lt, Le, Gt, Ge, LogAnd, LogOr}
use Rattle.vk_numbers.specs.Values.{Value, got, with_value, value_of_result, converted, chosen, truth_value}

-- ---- numbers

-- the operator on numbers that are converted to this type first
abbrev pub result_in : Op2 → Ty → ℤ → ℤ → Result ℤ Stop
result_in op t x y = op2_number op t (wrap_number t x) (wrap_number t y)

-- a shift: the left operand is converted to this type. The promotion of the right one keeps its number.
abbrev pub shift_result : Op2 → Ty → ℤ → ℤ → Result ℤ Stop
shift_result op t x y = op2_number op t (wrap_number t x) y

-- a condition holds where its number is not 0
abbrev pub is_on : ℤ → Bool
is_on z = not (int_eq z (pos 0))

-- the result of an operator on a number of the type t; `!e` is `0 == e`
abbrev pub unary_number : UnOp → Ty → ℤ → Result ℤ Stop
unary_number Plus t z = Ok (wrap_number (promoted t) z)
unary_number Neg t z = Ok (op1_number ones.Neg (promoted t) (wrap_number (promoted t) z))
unary_number Not t z = Ok (op1_number ones.Not (promoted t) (wrap_number (promoted t) z))
unary_number LogNot t z = result_in twos.Eq (promoted t) z (pos 0)

-- The result of an operator on numbers of the types s and t; `a > b` is `b < a`, and `a >= b` is `b <= a`. Of `&&` and `||` it is
-- the result where the first operand does not decide.
abbrev pub binary_number : BinOp → Ty → Ty → ℤ → ℤ → Result ℤ Stop
binary_number Add s t x y = result_in twos.Add (common_type s t) x y
binary_number Sub s t x y = result_in twos.Sub (common_type s t) x y
binary_number Mul s t x y = result_in twos.Mul (common_type s t) x y
binary_number Div s t x y = result_in twos.Div (common_type s t) x y
binary_number Rem s t x y = result_in twos.Rem (common_type s t) x y
binary_number And s t x y = result_in twos.And (common_type s t) x y
binary_number Or s t x y = result_in twos.Or (common_type s t) x y
binary_number Xor s t x y = result_in twos.Xor (common_type s t) x y
binary_number Shl s t x y = shift_result twos.Shl (promoted s) x y
binary_number Shr s t x y = shift_result twos.Shr (promoted s) x y
binary_number Eq s t x y = result_in twos.Eq (common_type s t) x y
binary_number Ne s t x y = result_in twos.Ne (common_type s t) x y
binary_number Lt s t x y = result_in twos.Lt (common_type s t) x y
binary_number Le s t x y = result_in twos.Le (common_type s t) x y
binary_number Gt s t x y = result_in twos.Lt (common_type s t) y x
binary_number Ge s t x y = result_in twos.Le (common_type s t) y x
binary_number LogAnd s t x y = Ok (truth (is_on y))
binary_number LogOr s t x y = Ok (truth (is_on y))

-- ---- values

-- the operator on numbers that are converted to this type first
abbrev pub in_type : Op2 → Ty → ℤ → ℤ → Value
in_type op t x y = value_of_result (result_in op t x y)

-- a shift: the left operand is converted to this type
abbrev pub shifted : Op2 → Ty → ℤ → ℤ → Value
shifted op t x y = value_of_result (shift_result op t x y)

-- whether it is not 0
abbrev pub holds : ℤ → Value
holds z = truth_value (is_on z)

-- both operands, the left one first
abbrev pub both : Value → Value → (ℤ → ℤ → Value) → Value
both x y next = with_value x (λ m. with_value y (λ n. next m n))

-- on a number of the type t
abbrev pub unary_value : UnOp → Ty → ℤ → Value
unary_value op t z = value_of_result (unary_number op t z)

-- on values of the types s and t
abbrev pub binary_value : BinOp → Ty → Ty → Value → Value → Value
binary_value LogAnd s t x y = with_value x (λ m. chosen m (with_value y holds) (got (pos 0)))
binary_value LogOr s t x y = with_value x (λ m. chosen m (got (pos 1)) (with_value y holds))
binary_value op s t x y = both x y (λ m n. value_of_result (binary_number op s t m n))

-- the second or third operand of `?:`, which have the types s and t, converted to their common type
abbrev pub choice_value : Ty → Ty → Value → Value → Value → Value
choice_value s t condition first second =
    with_value condition (λ z. with_value (chosen z first second) (converted (common_type s t)))
