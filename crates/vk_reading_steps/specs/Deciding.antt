-- Where the first operand of `&&` and `||` decides (C17 6.5.13, 6.5.14).
use Rattle.std.specs.Prelude.{Bool, true, false, Option, Some, None, pos}
use Rattle.vk_ast.specs.declared.expressions.BinOp.{BinOp}
use Rattle.vk_ast.specs.declared.expressions.BinOp.TheVariants.{LogAnd, LogOr}
use Rattle.vk_meaning.specs.Data.{Datum, number}

-- the value of the whole, by whether the first operand is not 0
abbrev pub decided_by : BinOp → (first : Bool) → Option Datum
decided_by LogAnd false = Some (number (pos 0))
decided_by LogOr true = Some (number (pos 1))
decided_by _ first = None
