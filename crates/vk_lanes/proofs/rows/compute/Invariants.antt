use Rattle.std.proofs.Common.{◌+◌, ◌-◌, ◌*◌}
use Rattle.vk_lanes.specs.Masks.{is_on}
use Rattle.vk_lanes.specs.Words.{word_in}
use Rattle.vk_lanes.specs.Inner.Blocks.{WritesOn}
use Rattle.vk_lanes.specs.Inner.Patterns.{pattern}
use Rattle.vk_lanes.proofs.rows.compute.Given as goal

abbrev pub invariant-loop-k : goal.invariant-loop-k
invariant-loop-k l = WritesOn l.d (l.d + 8 * l.k) (λ j. is_on l.mask (j - l.d)) (λ j. pattern l.op l.t (word_in l.fn.rows (l.a + (j - l.d))) (word_in l.fn.rows (l.b + (j - l.d)))) l.fn.rows l.rows

abbrev pub invariant-loop-i : goal.invariant-loop-i
invariant-loop-i l = WritesOn l.d (l.d + l.i) (λ j. is_on l.mask (j - l.d)) (λ j. pattern l.op l.t (word_in l.fn.rows (l.a + (j - l.d))) (word_in l.fn.rows (l.b + (j - l.d)))) l.fn.rows l.rows
