use Rattle.std.proofs.Common.{◌≡◌, map, take}
use Rattle.vk_ast.specs.Directives.{clause_of}
use Rattle.vk_rules_book.specs.Visits.{entries_of}
use Rattle.vk_rules_directives.proofs.listing.entries_of.Given as goal

abbrev pub invariant-loop-clause : goal.invariant-loop-clause
invariant-loop-clause l = l.entries.items ≡ entries_of (map clause_of (take l.clause-index l.clauses))
