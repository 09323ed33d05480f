use Rattle.std.proofs.Common.{refl}
use Rattle.vk_rules_functions.proofs.Walk.{nothing_noted}
use Rattle.vk_rules_functions.proofs.items.judge_item.Goals as goal

pub returns-in-Object : goal.returns-in-Object
returns-in-Object c = λ before declares. nothing_noted _ _ before _ _ _ c.in-Object.is refl

pub returns-in-Lost : goal.returns-in-Lost
returns-in-Lost c = λ before declares. nothing_noted _ _ before _ _ _ c.in-Lost.is refl
