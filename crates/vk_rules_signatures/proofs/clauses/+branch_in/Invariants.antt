use Rattle.std.proofs.Common.{length}
use Rattle.vk_rules_signatures.proofs.clauses.+branch_in.Given as goal

abbrev pub decreases-branch_in : goal.decreases-branch_in
decreases-branch_in l = length l.clauses.now
