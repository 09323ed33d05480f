use Rattle.vk_construct_places.proofs.Nodes.{difference, sum_left, sum_right}
use Rattle.vk_construct_places.proofs.laws.sums_move_pointers.Goals as goal

pub returns-clause-right : goal.returns-clause-right
returns-clause-right c = sum_right

pub returns-clause-left : goal.returns-clause-left
returns-clause-left c = sum_left

pub returns-clause-difference : goal.returns-clause-difference
returns-clause-difference c = difference
