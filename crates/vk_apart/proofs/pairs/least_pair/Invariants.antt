-- No lane so far has a partner.
use Rattle.vk_lanes.specs.Masks.{is_on}
use Rattle.vk_arguments.specs.Arguments.{passed}
use Rattle.vk_pointer_texts.specs.Heads.{arrays_of}
use Rattle.vk_apart.specs.Inner.Pairs.{NoneBefore, active_meet}
use Rattle.vk_apart.proofs.pairs.least_pair.Given as goal

abbrev pub invariant-loop-first : goal.invariant-loop-first
invariant-loop-first l = NoneBefore l.first l.call.lanes (active_meet l.call.types.now (arrays_of l.call.heads.now) (passed l.call.lanes l.call.words.now) (is_on l.fn.mask))
