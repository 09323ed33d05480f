use Rattle.std.proofs.Common.{length}
use Rattle.vk_rules_signatures.proofs.clauses.+kind_in.Given as goal

abbrev pub decreases-kind_in : goal.decreases-kind_in
decreases-kind_in l = length l.clauses.now
