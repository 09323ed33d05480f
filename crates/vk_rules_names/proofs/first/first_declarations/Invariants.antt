use Rattle.vk_rules_names.specs.Seen.{AreFirst}
use Rattle.vk_rules_names.proofs.first.first_declarations.Given as goal

abbrev pub invariant-loop-number : goal.invariant-loop-number
invariant-loop-number l = AreFirst l.items l.first.items l.number
