use Rattle.std.proofs.Common.{take}
use Rattle.vk_rules_directives.specs.Inner.Tables.{Holds, lists_uniform}
use Rattle.vk_rules_directives.proofs.listing.mark_uniform.Given as goal

abbrev pub invariant-loop-e : goal.invariant-loop-e
invariant-loop-e l = Holds l.uniform (lists_uniform (take l.e-index l.entries))
