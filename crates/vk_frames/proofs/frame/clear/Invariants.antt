use Rattle.std.proofs.Common.{◌≡◌, ℕ, ◌<◌}
use Rattle.vk_frames.specs.Rows.{pattern_at}
use Rattle.vk_frames.proofs.frame.clear.Given as goal

abbrev pub invariant-loop-word : goal.invariant-loop-word
invariant-loop-word l = (k : ℕ) → k < l.word-index → pattern_at l.words k ≡ 0
