-- The lanes below the index have their words.
use Rattle.std.proofs.Common.{◌≡◌, ℕ, ◌<◌, length, Some}
use Rattle.vk_arguments.specs.Texts.{value_of_lane}
use Rattle.vk_arguments.specs.Inner.Rows.{word_at}
use Rattle.vk_arguments.proofs.rows.row_of.Given as goal

abbrev pub invariant-loop-lane : goal.invariant-loop-lane
invariant-loop-lane l = record {
  size : length l.row.items ≡ l.lane;
  words : (j : ℕ) → j < l.lane → value_of_lane l.fn.values j ≡ Some (word_at l.row.items j);
}
