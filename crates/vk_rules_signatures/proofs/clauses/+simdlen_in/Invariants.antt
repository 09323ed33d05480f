use Rattle.std.proofs.Common.{length}
use Rattle.vk_rules_signatures.proofs.clauses.+simdlen_in.Given as goal

abbrev pub decreases-simdlen_in : goal.decreases-simdlen_in
decreases-simdlen_in l = length l.clauses.now
