use Rattle.std.proofs.Common.{length}
use Rattle.vk_parse_directives.proofs.Summing.{Summing}
use Rattle.vk_parse_directives.proofs.clauses.read_modifiers.Given as goal

abbrev pub invariant-loop-part : goal.invariant-loop-part
invariant-loop-part l = Summing l.names l.syms l.rest l.found

abbrev pub decreases-loop-part : goal.decreases-loop-part
decreases-loop-part l = length l.rest
