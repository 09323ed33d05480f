use Rattle.std.proofs.Common.{◌≡◌, ℕ, ◌&&◌, ltb}
use Rattle.vk_types.specs.Numbers.{number_of}
use Rattle.vk_types.specs.Operators.{divides_by_0}
use Rattle.vk_lanes.specs.Kernels.{op2_word}
use Rattle.vk_lanes.specs.Masks.{is_on, lane_count}
use Rattle.vk_lanes.specs.Words.{word_in}
use Rattle.vk_lanes.specs.Inner.Blocks.{WritesOn}
use Rattle.vk_lanes.proofs.kernels.divide.Given as goal

abbrev pub invariant-loop-i : goal.invariant-loop-i
invariant-loop-i l = record {
  words : WritesOn 0 l.i (is_on l.mask) (λ j. op2_word l.op l.t l.bt (word_in l.a j) (word_in l.b j) (word_in l.fn.d j)) l.fn.d l.d;
  len : lane_count l.zero ≡ lane_count l.mask;
  zero : (j : ℕ) → is_on l.zero j ≡ (ltb j l.i && (is_on l.mask j && divides_by_0 l.op (number_of l.bt (word_in l.b j))));
}
