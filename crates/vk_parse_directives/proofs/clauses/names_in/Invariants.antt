use Rattle.std.proofs.Common.{◌≡◌, ◌++◌, drop}
use Rattle.vk_parse_directives.specs.Clauses.{names_in}
use Rattle.vk_parse_directives.proofs.clauses.names_in.Given as goal

abbrev pub invariant-loop-sym : goal.invariant-loop-sym
invariant-loop-sym l = l.list.items ++ names_in (drop l.sym-index l.syms) ≡ names_in l.syms
