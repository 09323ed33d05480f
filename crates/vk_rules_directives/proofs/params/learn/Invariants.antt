use Rattle.std.proofs.Common.{take}
use Rattle.vk_rules_directives.specs.Inner.Tables.{AreTypes}
use Rattle.vk_rules_directives.proofs.params.learn.Given as goal

abbrev pub invariant-loop-p : goal.invariant-loop-p
invariant-loop-p l = AreTypes l.types.items (take l.p-index l.params)
