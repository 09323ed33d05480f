use Rattle.std.proofs.Common.{length}
use Rattle.vk_rules_signatures.proofs.steps.+is_uniform_in.Given as goal

abbrev pub decreases-is_uniform_in : goal.decreases-is_uniform_in
decreases-is_uniform_in l = length l.clauses.now
