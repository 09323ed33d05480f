use Rattle.std.proofs.Common.{◌≡◌, ◌≤◌, length}
use Rattle.vk_lex.specs.Comments.{after_close}
use Rattle.vk_lex.proofs.comments.after_close.Given as goal

abbrev pub invariant-loop-rest : goal.invariant-loop-rest
invariant-loop-rest l = (after_close l.rest ≡ after_close l.initial.rest) × (length l.rest ≤ length l.initial.rest)

abbrev pub decreases-loop-rest : goal.decreases-loop-rest
decreases-loop-rest l = length l.rest
