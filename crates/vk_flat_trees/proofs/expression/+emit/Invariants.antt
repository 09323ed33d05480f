use Rattle.std.proofs.Common.{◌+◌, ◌*◌}
use Rattle.vk_ast.specs.Tree.{expr_of, nodes_of}
use Rattle.vk_flat_trees.proofs.expression.+emit.Given as goal

abbrev pub decreases-emit : goal.decreases-emit
decreases-emit l = 2 * nodes_of (expr_of l.e.now)

abbrev pub decreases-emit_binary : goal.decreases-emit_binary
decreases-emit_binary l = 2 * (nodes_of (expr_of l.left.now) + nodes_of (expr_of l.right.now)) + 1

abbrev pub decreases-emit_and : goal.decreases-emit_and
decreases-emit_and l = 2 * (nodes_of (expr_of l.left.now) + nodes_of (expr_of l.right.now)) + 1

abbrev pub decreases-emit_or : goal.decreases-emit_or
decreases-emit_or l = 2 * (nodes_of (expr_of l.left.now) + nodes_of (expr_of l.right.now)) + 1

abbrev pub decreases-emit_choice : goal.decreases-emit_choice
decreases-emit_choice l = 2 * (nodes_of (expr_of l.condition.now) + nodes_of (expr_of l.first.now) + nodes_of (expr_of l.second.now)) + 1

abbrev pub decreases-emit_pointer : goal.decreases-emit_pointer
decreases-emit_pointer l = 2 * nodes_of (expr_of l.e.now)

abbrev pub decreases-emit_place : goal.decreases-emit_place
decreases-emit_place l = 2 * nodes_of (expr_of l.e.now)

abbrev pub decreases-emit_element : goal.decreases-emit_element
decreases-emit_element l = 2 * (nodes_of (expr_of l.base.now) + nodes_of (expr_of l.subscript.now)) + 1
