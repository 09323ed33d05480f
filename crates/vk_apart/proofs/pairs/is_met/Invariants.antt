-- No parameter so far is met.
use Rattle.std.proofs.Common.{◌≡◌, false}
use Rattle.vk_arguments.specs.Arguments.{passed}
use Rattle.vk_pointer_texts.specs.Heads.{arrays_of}
use Rattle.vk_apart.specs.Inner.Reaches.{meet, reach}
use Rattle.vk_apart.specs.Inner.Pairs.{any_below}
use Rattle.vk_apart.proofs.pairs.is_met.Given as goal

abbrev pub invariant-loop-parameter : goal.invariant-loop-parameter
invariant-loop-parameter l = any_below l.parameter (λ q. meet l.fn.reached (reach l.call.types.now (arrays_of l.call.heads.now) (passed l.call.lanes l.call.words.now) q l.lane)) ≡ false
