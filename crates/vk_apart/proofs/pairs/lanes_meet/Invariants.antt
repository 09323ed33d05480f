-- No parameter so far meets the other lane.
use Rattle.std.proofs.Common.{◌≡◌, false}
use Rattle.vk_arguments.specs.Arguments.{passed}
use Rattle.vk_pointer_texts.specs.Heads.{arrays_of}
use Rattle.vk_apart.specs.Inner.Reaches.{reach}
use Rattle.vk_apart.specs.Inner.Pairs.{any_below, is_met}
use Rattle.vk_apart.proofs.pairs.lanes_meet.Given as goal

abbrev pub invariant-loop-parameter : goal.invariant-loop-parameter
invariant-loop-parameter l = let ws = passed l.call.lanes l.call.words.now in
    any_below l.parameter (λ p. is_met l.call.types.now (arrays_of l.call.heads.now) ws (reach l.call.types.now (arrays_of l.call.heads.now) ws p l.first) l.second) ≡ false
