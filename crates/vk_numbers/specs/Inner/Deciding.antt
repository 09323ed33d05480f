-- Words of the code's contracts.
use Rattle.std.specs.Prelude.{Bool, false, not, ℤ, IfOk}
use Rattle.vk_types.specs.Numbers.{IsInRange}
use Rattle.vk_ast.specs.declared.expressions.BinOp.{BinOp}
use Rattle.vk_ast.specs.declared.expressions.BinOp.TheVariants.{LogAnd, LogOr}
use Rattle.vk_numbers.specs.Values.{value_of_result}
use Rattle.vk_numbers.specs.Operators.{is_on}
use Rattle.vk_numbers.specs.Constants.{Computed}
use Rattle.vk_numbers.specs.declared.constants.Constant.{Constant}

-- the first operand of `&&` or `||` decides
abbrev pub decides : BinOp → ℤ → Bool
decides LogAnd z = not (is_on z)
decides LogOr z = is_on z
decides op z = false

abbrev pub computed_by : Constant → Computed
computed_by c = record { ty = c.ty; value = value_of_result c.value }

-- the number is one of the type
abbrev pub IsFit : Constant → Type 0
IsFit c = IfOk c.value (λ z. IsInRange c.ty z)
