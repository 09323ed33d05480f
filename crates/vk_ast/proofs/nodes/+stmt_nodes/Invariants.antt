use Rattle.std.proofs.Common.{◌≡◌, min, ◌+◌, take}
use Rattle.vk_ast.specs.Statements.{list_stmts, all_stmt_nodes}
use Rattle.vk_ast.proofs.nodes.+stmt_nodes.Given as goal

abbrev pub invariant-loop-statement : goal.invariant-loop-statement
invariant-loop-statement l = l.nodes ≡ min (1 + all_stmt_nodes (list_stmts (take l.statement-index l.statement-items))) 4294967295
