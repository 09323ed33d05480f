use Rattle.vk_lanes.specs.Masks.{is_on}
use Rattle.vk_lanes.specs.Inner.Blocks.{WritesOn}
use Rattle.vk_object.specs.Machine.{word_in}
use Rattle.vk_frames.specs.Frames.{lanes_of}
use Rattle.vk_direct.specs.Given.{ends_on}
use Rattle.vk_direct.proofs.taken.take_results.Given as goal

abbrev pub invariant-loop-lane : goal.invariant-loop-lane
invariant-loop-lane l = WritesOn 0 l.lane (ends_on (is_on l.mask) (lanes_of l.frame)) (λ j. word_in l.register (lanes_of l.frame j)) l.fn.results l.results
