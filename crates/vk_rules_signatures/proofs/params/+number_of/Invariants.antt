use Rattle.std.proofs.Common.{length}
use Rattle.vk_rules_signatures.proofs.params.+number_of.Given as goal

abbrev pub decreases-number_of : goal.decreases-number_of
decreases-number_of l = length l.params.now
