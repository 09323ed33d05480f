use Rattle.std.proofs.Common.{◌≤◌, length, List, ℕ}
use Rattle.vk_lex.specs.Comments.{Gap}
use Rattle.vk_lex.proofs.comments.past_gap.Given as goal

abbrev pub invariant-loop-more : goal.invariant-loop-more
invariant-loop-more l = ((r : List ℕ) → Gap l.rest r → Gap l.initial.rest r) × (length l.rest ≤ length l.initial.rest)

abbrev pub decreases-loop-more : goal.decreases-loop-more
decreases-loop-more l = length l.rest
