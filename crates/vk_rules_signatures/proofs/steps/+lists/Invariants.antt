use Rattle.std.proofs.Common.{length}
use Rattle.vk_rules_signatures.proofs.steps.+lists.Given as goal

abbrev pub decreases-lists : goal.decreases-lists
decreases-lists l = length l.names.now
