use Rattle.vk_rules_items.specs.Inner.Known.{judged}
use Rattle.vk_rules_items.proofs.Surveys.{length_at}
use Rattle.vk_rules_items.proofs.Walk.{item_noted}
use Rattle.vk_rules_items.proofs.items.judge_item.Goals as goal

pub judge_front-requires-clause-length : goal.judge_front-requires-clause-length
judge_front-requires-clause-length c =
    length_at c.args.survey.now.items.now c.args.seen.now.number c.args.item.now _ _ c.requires.within c.requires.item c.requires.survey.lengths c.index-length.ensures

pub judge_back-requires-clause-length : goal.judge_back-requires-clause-length
judge_back-requires-clause-length c =
    length_at c.args.survey.now.items.now c.args.seen.now.number c.args.item.now _ _ c.requires.within c.requires.item c.requires.survey.lengths c.index-length.ensures

pub returns-clause-noted : goal.returns-clause-noted
returns-clause-noted c =
    item_noted (judged c.args.survey.now) c.args.survey.now.names.now c.args.survey.now.items.now c.args.seen.now.number _ c.args.item.now _ _ _ c.requires.within c.requires.item c.in_ok-add.ensures.number c.judge_front.ensures c.judge_back.ensures
