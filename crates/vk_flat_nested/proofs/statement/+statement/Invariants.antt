use Rattle.std.proofs.Common.{◌+◌, ◌*◌}
use Rattle.vk_ast.specs.Statements.{all_stmt_nodes, list_stmts, stmt_nodes, stmt_of}
use Rattle.vk_ast.specs.Tree.{expr_of, nodes_of}
use Rattle.vk_flat_nested.proofs.statement.+statement.Given as goal

abbrev pub decreases-emit_statement : goal.decreases-emit_statement
decreases-emit_statement l = 3 * stmt_nodes (stmt_of l.s.now)

abbrev pub decreases-emit_all : goal.decreases-emit_all
decreases-emit_all l = 3 * all_stmt_nodes (list_stmts l.statements.now) + 1

abbrev pub decreases-emit_branch : goal.decreases-emit_branch
decreases-emit_branch l = 3 * stmt_nodes (stmt_of l.s.now) + 1

abbrev pub decreases-emit_if : goal.decreases-emit_if
decreases-emit_if l = 3 * (nodes_of (expr_of l.test.now) + stmt_nodes (stmt_of l.first.now)) + 2

abbrev pub decreases-emit_if_else : goal.decreases-emit_if_else
decreases-emit_if_else l = 3 * (nodes_of (expr_of l.test.now) + stmt_nodes (stmt_of l.first.now) + stmt_nodes (stmt_of l.second.now)) + 2
