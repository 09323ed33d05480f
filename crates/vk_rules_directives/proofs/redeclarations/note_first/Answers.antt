use Rattle.vk_rules_directives.proofs.Lists.{at_none}
use Rattle.vk_rules_directives.proofs.redeclarations.note_first.Goals as goal

pub returns-in-empty : goal.returns-in-empty
returns-in-empty c = at_none _ c.args.token c.args.directives.now _ c.in-empty.len_below
