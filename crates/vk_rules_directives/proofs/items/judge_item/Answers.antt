use Rattle.std.proofs.Common.{refl}
use Rattle.vk_rules_directives.proofs.Lists.{nothing_noted}
use Rattle.vk_rules_directives.proofs.items.judge_item.Goals as goal

pub returns-in-Object-clause-noted : goal.returns-in-Object-clause-noted
returns-in-Object-clause-noted c = λ before declares. nothing_noted _ before _ _ _ c.in-Object.is refl

pub returns-in-Lost-clause-noted : goal.returns-in-Lost-clause-noted
returns-in-Lost-clause-noted c = λ before declares. nothing_noted _ before _ _ _ c.in-Lost.is refl
