use Rattle.std.proofs.Common.{length}
use Rattle.vk_rules_signatures.proofs.clauses.+align_in.Given as goal

abbrev pub decreases-align_in : goal.decreases-align_in
decreases-align_in l = length l.clauses.now
