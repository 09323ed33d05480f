use Rattle.std.proofs.Common.{◌≡◌, ◌++◌, length, Some}
use Rattle.vk_parse_directives.specs.Inner.Reading.{◌>>=◌, ids_in}
use Rattle.vk_parse_directives.proofs.clauses.ids.Given as goal

abbrev pub invariant-loop-rest : goal.invariant-loop-rest
invariant-loop-rest l = (ids_in l.rest >>= (λ later. Some (l.list.items ++ later))) ≡ ids_in l.syms

abbrev pub decreases-loop-rest : goal.decreases-loop-rest
decreases-loop-rest l = length l.rest
