-- The types that operators give (C17 6.5).
use Rattle.vk_types.specs.declared.types.Ty.{Ty}
use Rattle.vk_types.specs.declared.types.Ty.TheVariants.{I32}
use Rattle.vk_types.specs.Conversions.{common_type, promoted}
use Rattle.vk_ast.specs.declared.expressions.UnOp.{UnOp}
use Rattle.vk_ast.specs.declared.expressions.UnOp.TheVariants.{Plus, Neg, Not, LogNot}
use Rattle.vk_ast.specs.declared.expressions.BinOp.{BinOp}
use Rattle.vk_ast.specs.declared.expressions.BinOp.TheVariants.{Add, Sub, Mul, Div, Rem, And, Or, Xor, Shl, Shr, Eq, Ne, Lt, Le, Gt, Ge, LogAnd, LogOr}

-- `!` gives an int, and the others the promoted type of the operand (C17 6.5.3.3)
abbrev pub unary_type : UnOp → Ty → Ty
unary_type Plus t = promoted t
unary_type Neg t = promoted t
unary_type Not t = promoted t
unary_type LogNot t = I32

-- comparisons, `&&` and `||` give an int, shifts the promoted type of the left operand, and the others the common type of the
-- operands (C17 6.5.5 to 6.5.14)
abbrev pub binary_type : BinOp → Ty → Ty → Ty
binary_type Add s t = common_type s t
binary_type Sub s t = common_type s t
binary_type Mul s t = common_type s t
binary_type Div s t = common_type s t
binary_type Rem s t = common_type s t
binary_type And s t = common_type s t
binary_type Or s t = common_type s t
binary_type Xor s t = common_type s t
binary_type Shl s t = promoted s
binary_type Shr s t = promoted s
binary_type Eq s t = I32
binary_type Ne s t = I32
binary_type Lt s t = I32
binary_type Le s t = I32
binary_type Gt s t = I32
binary_type Ge s t = I32
binary_type LogAnd s t = I32
binary_type LogOr s t = I32
