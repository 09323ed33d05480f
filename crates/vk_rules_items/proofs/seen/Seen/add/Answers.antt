use Rattle.std.proofs.Common.{arith}
use Rattle.vk_rules_items.proofs.Declared.{next_defined}
use Rattle.vk_rules_items.proofs.Sums.{next_cost}
use Rattle.vk_rules_items.specs.Inner.Known.{unit_items}
use Rattle.vk_rules_items.proofs.seen.Seen.add.Goals as goal

pub returns-clause-seen : goal.returns-clause-seen
returns-clause-seen c = record {
  first = c.in_ok-declare_next.ensures.numbers;
  defined = λ id.
      next_defined c.args.survey.now.items.now c.args.self.now.number _ _ id _ _ c.requires.within c.requires.item (c.requires.seen.defined id) (c.in_ok-note_definition.ensures id);
  cost =
      next_cost c.args.survey.now.names.now (unit_items c.args.survey.now) c.args.survey.now.items.now c.args.self.now.number _ c.args.self.now.cost _ _ c.requires.within c.requires.item c.requires.seen.cost c.cost_of-cost.ensures
      (omega (arith, c.saturating_add.ensures, c.min-self.ensures));
}
