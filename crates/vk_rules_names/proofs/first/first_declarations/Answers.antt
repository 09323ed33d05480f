use Rattle.vk_rules_names.proofs.Tables.{all_first, has_first, none_first}
use Rattle.vk_rules_names.proofs.first.first_declarations.Goals as goal

pub loop-number-init : goal.loop-number-init
loop-number-init c = none_first c.args.items.now _ c.in_ok-first.ensures

pub returns-clause-numbers : goal.returns-clause-numbers
returns-clause-numbers c = all_first _ _ _ c.loop-number-test.false c.loop-number.invariant

pub returns-clause-first : goal.returns-clause-first
returns-clause-first c = has_first _ _ _ (all_first _ _ _ c.loop-number-test.false c.loop-number.invariant)
