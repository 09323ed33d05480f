-- What is stored in a variable.
use Rattle.std.specs.Prelude.{ℕ, Option, Some, None}
use Rattle.vk_ast.specs.declared.expressions.BinOp.{BinOp}
use Rattle.vk_ast.specs.Tree.{Tree}
use Rattle.vk_rules_book.specs.Scopes.{Scope}
use Rattle.vk_rules_book.specs.Typings.{typing_of}
use Rattle.vk_meaning.specs.Data.{given}
use Rattle.vk_meaning.specs.Expressions.{Context, integer_type, value_of}
use Rattle.vk_meaning.specs.Statements.{Evaluation, combined}

-- `e`, or the operator on what the variable has and `e`
abbrev pub assigned_value : Context → Scope → (number : ℕ) → Option BinOp → (place e : Tree) → Evaluation
assigned_value c scope number None place e vs = value_of c scope vs e
assigned_value c scope number (Some op) place e vs =
    combined op (integer_type (typing_of scope place)) (integer_type (typing_of scope e)) (given (vs number)) (value_of c scope vs e)
