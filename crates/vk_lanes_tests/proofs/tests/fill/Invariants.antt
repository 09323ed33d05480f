use Rattle.std.proofs.Common.{ℕ, ◌<◌}
use Rattle.vk_types.specs.Numbers.{IsCanonical}
use Rattle.vk_lanes.specs.Words.{word_in}
use Rattle.vk_lanes_tests.proofs.tests.fill.Given as goal

abbrev pub invariant-loop-i : goal.invariant-loop-i
invariant-loop-i l = (i : ℕ) → i < l.i → IsCanonical l.t (word_in l.row i)
