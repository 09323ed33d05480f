use Rattle.vk_rules_directives.proofs.Lists.{lengths_differ}
use Rattle.vk_rules_directives.proofs.signed.same_lists.Goals as goal

pub returns-then-first-own : goal.returns-then-first-own
returns-then-first-own c = lengths_differ _ _ c.if-first-own.true
