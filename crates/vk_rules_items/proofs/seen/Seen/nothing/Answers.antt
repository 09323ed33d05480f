use Rattle.std.proofs.Common.{ℕ, [], Option, is_some, ap, sym}
use Rattle.vk_rules_names.proofs.Tables.{none_first}
use Rattle.vk_rules_items.specs.Inner.Counts.{up_to_limit}
use Rattle.vk_rules_items.specs.Inner.Known.{unit_items}
use Rattle.vk_rules_items.proofs.Sums.{no_costs}
use Rattle.vk_rules_items.proofs.seen.Seen.nothing.Goals as goal

pub returns-clause-seen : goal.returns-clause-seen
returns-clause-seen c = record {
  first = none_first c.args.survey.now.items.now _ c.in_ok-first.ensures;
  defined = λ id. ap (λ (o : Option ℕ). is_some o) (c.in_ok-defined.ensures id);
  cost = sym (ap up_to_limit (no_costs c.args.survey.now.names.now (unit_items c.args.survey.now) []));
}
