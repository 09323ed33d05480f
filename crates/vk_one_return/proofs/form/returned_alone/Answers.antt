-- Two statements and more.
use Rattle.std.proofs.Common.{◌≡◌, ◌≤◌, List, [], ◌∷◌, length, None, refl, arith}
use Rattle.vk_ast.specs.declared.statements.Stmt.{Stmt}
use Rattle.vk_ast.specs.Statements.{list_stmts}
use Rattle.vk_one_return.specs.Form.{returned_alone}
use Rattle.vk_one_return.proofs.form.returned_alone.Goals as goal

none_of_more : (ss : List Stmt) → 2 ≤ length ss → None ≡ returned_alone (list_stmts ss)
none_of_more [] h = absurd (omega arith)
none_of_more (s ∷ []) h = absurd (omega arith)
none_of_more (s ∷ t ∷ ss) h = refl

pub returns-in-len2-up : goal.returns-in-len2-up
returns-in-len2-up c = none_of_more c.args.statements.now (omega arith)
