use Rattle.vk_ast.specs.Tree.{expr_of, nodes_of}
use Rattle.vk_flat_trees.proofs.types.+types.Given as goal

abbrev pub decreases-type_of : goal.decreases-type_of
decreases-type_of l = nodes_of (expr_of l.e.now)

abbrev pub decreases-pointed_type : goal.decreases-pointed_type
decreases-pointed_type l = nodes_of (expr_of l.e.now)

abbrev pub decreases-placed_type : goal.decreases-placed_type
decreases-placed_type l = nodes_of (expr_of l.e.now)
