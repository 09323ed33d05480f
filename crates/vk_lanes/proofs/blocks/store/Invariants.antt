use Rattle.std.proofs.Common.{◌≡◌, ◌+◌, ◌-◌, get_or}
use Rattle.vk_lanes.specs.Inner.Blocks.{WritesFrom}
use Rattle.vk_lanes.proofs.blocks.store.Given as goal

abbrev pub invariant-loop-k : goal.invariant-loop-k
invariant-loop-k l = record {
  words : l.word-items ≡ l.fn.words;
  written : WritesFrom l.at (l.at + l.k) (λ i. get_or l.fn.words (i - l.at) 0) l.fn.row l.row;
}
