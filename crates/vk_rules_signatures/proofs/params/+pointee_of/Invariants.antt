use Rattle.std.proofs.Common.{length}
use Rattle.vk_rules_signatures.proofs.params.+pointee_of.Given as goal

abbrev pub decreases-pointee_of : goal.decreases-pointee_of
decreases-pointee_of l = length l.params.now
