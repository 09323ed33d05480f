use Rattle.vk_construct.proofs.Trees.{tree_binary, tree_cast, tree_unary}
use Rattle.vk_construct.proofs.laws.operators_follow_operands.Goals as goal

pub returns-clause-cast : goal.returns-clause-cast
returns-clause-cast c = tree_cast

pub returns-clause-unary : goal.returns-clause-unary
returns-clause-unary c = tree_unary

pub returns-clause-binary : goal.returns-clause-binary
returns-clause-binary c = tree_binary
