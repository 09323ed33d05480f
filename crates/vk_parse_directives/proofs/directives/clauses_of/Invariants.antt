use Rattle.std.proofs.Common.{length, map}
use Rattle.vk_ast.specs.Directives.{clause_of}
use Rattle.vk_parse_directives.proofs.Telling.{Telling}
use Rattle.vk_parse_directives.proofs.directives.clauses_of.Given as goal

abbrev pub invariant-loop-rest : goal.invariant-loop-rest
invariant-loop-rest l = Telling l.names l.line l.rest (map clause_of l.list.items)

abbrev pub decreases-loop-rest : goal.decreases-loop-rest
decreases-loop-rest l = length l.rest
