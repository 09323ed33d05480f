use Rattle.std.proofs.Common.{◌*◌}
use Rattle.vk_lanes.specs.Masks.{is_on}
use Rattle.vk_lanes.specs.Words.{word_in}
use Rattle.vk_lanes.specs.Inner.Blocks.{WritesOn}
use Rattle.vk_lanes.specs.Inner.Patterns.{pattern}
use Rattle.vk_lanes.proofs.kernels.compute.Given as goal

abbrev pub invariant-loop-k : goal.invariant-loop-k
invariant-loop-k l = WritesOn 0 (8 * l.k) (is_on l.mask) (λ i. pattern l.op l.t (word_in l.a i) (word_in l.b i)) l.fn.d l.d

abbrev pub invariant-loop-i : goal.invariant-loop-i
invariant-loop-i l = WritesOn 0 l.i (is_on l.mask) (λ i. pattern l.op l.t (word_in l.a i) (word_in l.b i)) l.fn.d l.d
