use Rattle.vk_rules_names.proofs.Tables.{has_first, next_first}
use Rattle.vk_rules_names.proofs.first.declare_next.Goals as goal

pub returns-clause-numbers : goal.returns-clause-numbers
returns-clause-numbers c =
    next_first _ _ _ _ _ c.requires.number c.index-items-number.is c.requires.before c.in_ok-declare_item.ensures

pub returns-clause-first : goal.returns-clause-first
returns-clause-first c =
    has_first _ _ _ (next_first _ _ _ _ _ c.requires.number c.index-items-number.is c.requires.before c.in_ok-declare_item.ensures)
