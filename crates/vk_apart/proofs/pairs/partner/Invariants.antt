-- No lane so far is a partner.
use Rattle.std.proofs.Common.{◌≡◌, ℕ, ◌+◌, ◌<◌, ◌≤◌, false}
use Rattle.vk_lanes.specs.Masks.{is_on}
use Rattle.vk_arguments.specs.Arguments.{passed}
use Rattle.vk_pointer_texts.specs.Heads.{arrays_of}
use Rattle.vk_apart.specs.Inner.Pairs.{active_meet}
use Rattle.vk_apart.proofs.pairs.partner.Given as goal

abbrev pub invariant-loop-second : goal.invariant-loop-second
invariant-loop-second l = (k : ℕ) → l.first + 1 ≤ k → k < l.second →
    active_meet l.call.types.now (arrays_of l.call.heads.now) (passed l.call.lanes l.call.words.now) (is_on l.fn.mask) l.first k ≡ false
