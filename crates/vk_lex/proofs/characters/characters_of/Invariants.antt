use Rattle.std.proofs.Common.{length}
use Rattle.vk_lex.proofs.Joins.{Joining}
use Rattle.vk_lex.proofs.characters.characters_of.Given as goal

abbrev pub invariant-loop-rest : goal.invariant-loop-rest
invariant-loop-rest l = Joining l.bytes l.codes.items l.lines.items l.last l.rest

abbrev pub decreases-loop-rest : goal.decreases-loop-rest
decreases-loop-rest l = length l.rest
