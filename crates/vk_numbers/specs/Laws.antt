-- Words of the laws.
use Rattle.std.specs.Prelude.{Bool, true, false}
use Rattle.vk_ast.specs.declared.expressions.BinOp.{BinOp}
use Rattle.vk_ast.specs.declared.expressions.BinOp.TheVariants.{LogAnd, LogOr}

-- `&&` and `||`, which may leave out their second operand
abbrev pub is_logical : BinOp → Bool
is_logical LogAnd = true
is_logical LogOr = true
is_logical op = false
