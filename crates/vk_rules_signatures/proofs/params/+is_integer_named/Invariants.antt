use Rattle.std.proofs.Common.{length}
use Rattle.vk_rules_signatures.proofs.params.+is_integer_named.Given as goal

abbrev pub decreases-is_integer_named : goal.decreases-is_integer_named
decreases-is_integer_named l = length l.params.now
