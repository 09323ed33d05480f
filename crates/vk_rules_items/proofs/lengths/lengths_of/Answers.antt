use Rattle.vk_rules_items.proofs.Surveys.{all_lengths, next_lengths}
use Rattle.vk_rules_items.proofs.lengths.lengths_of.Goals as goal

pub loop-item-preserved : goal.loop-item-preserved
loop-item-preserved c =
    next_lengths c.args.items.now c.loop-item.item-index _ _ _ _ c.loop-item-test.true c.item-item.is c.loop-item.invariant c.length_of_item.ensures c.in_ok-push.ensures.items

pub returns : goal.returns
returns c = all_lengths _ _ _ c.loop-item-test.false c.loop-item.invariant
