use Rattle.std.proofs.Common.{length}
use Rattle.vk_lex.proofs.Loop.{Lexing}
use Rattle.vk_lex.proofs.reader.lex.Given as goal

abbrev pub invariant-loop-rest : goal.invariant-loop-rest
invariant-loop-rest l = Lexing l.fn.bytes l.names l.list.items l.mode l.rest

abbrev pub decreases-loop-rest : goal.decreases-loop-rest
decreases-loop-rest l = length l.rest
