use Rattle.std.proofs.Common.{◌+◌, ◌-◌, ◌*◌}
use Rattle.vk_lanes.specs.Masks.{is_on}
use Rattle.vk_lanes.specs.Inner.Blocks.{WritesOn}
use Rattle.vk_lanes.proofs.fill.rows_fill.Given as goal

abbrev pub invariant-loop-k : goal.invariant-loop-k
invariant-loop-k l = WritesOn l.d (l.d + 8 * l.k) (λ j. is_on l.mask (j - l.d)) (λ j. l.word.0) l.fn.rows l.rows

abbrev pub invariant-loop-i : goal.invariant-loop-i
invariant-loop-i l = WritesOn l.d (l.d + l.i) (λ j. is_on l.mask (j - l.d)) (λ j. l.word.0) l.fn.rows l.rows
