use Rattle.vk_lane.proofs.Pointers.{moved_word, same_cell}
use Rattle.vk_lane.proofs.laws.words_are_pointers.Goals as goal

pub returns-clause-named : goal.returns-clause-named
returns-clause-named c = same_cell

pub returns-clause-moved : goal.returns-clause-moved
returns-clause-moved c = moved_word
