use Rattle.std.proofs.Common.{◌≡◌, ◌+◌, ◌-◌, ℕ, ◌&&◌, ltb}
use Rattle.vk_types.specs.Numbers.{number_of}
use Rattle.vk_types.specs.Operators.{divides_by_0}
use Rattle.vk_lanes.specs.Kernels.{op2_word}
use Rattle.vk_lanes.specs.Masks.{is_on, lane_count}
use Rattle.vk_lanes.specs.Words.{word_in}
use Rattle.vk_lanes.specs.Inner.Blocks.{WritesOn}
use Rattle.vk_lanes.proofs.rows.divide.Given as goal

abbrev pub invariant-loop-i : goal.invariant-loop-i
invariant-loop-i l = record {
  words : WritesOn l.d (l.d + l.i) (λ j. is_on l.mask (j - l.d)) (λ j. op2_word l.op l.t l.bt (word_in l.fn.rows (l.a + (j - l.d))) (word_in l.fn.rows (l.b + (j - l.d))) (word_in l.fn.rows (l.d + (j - l.d)))) l.fn.rows l.rows;
  len : lane_count l.zero ≡ lane_count l.mask;
  zero : (j : ℕ) → is_on l.zero j ≡ (ltb j l.i && (is_on l.mask j && divides_by_0 l.op (number_of l.bt (word_in l.fn.rows (l.b + j)))));
}
