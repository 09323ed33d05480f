use Rattle.std.proofs.Common.{ap, sym, ◌∙◌}
use Rattle.std.specs.Option.{option_map}
use Rattle.vk_rules_items.specs.Inner.Counts.{nodes_told}
use Rattle.vk_rules_items.proofs.Surveys.{all_nodes, next_nodes, no_definition}
use Rattle.vk_rules_items.proofs.survey.nodes_of_definitions.Goals as goal

pub loop-item-init : goal.loop-item-init
loop-item-init c = λ id. c.in_ok-nodes.ensures id ∙ sym (ap (option_map nodes_told) (no_definition id))

pub loop-item-preserved : goal.loop-item-preserved
loop-item-preserved c = λ id.
    next_nodes c.args.items.now c.loop-item.item-index _ id _ _ c.loop-item-test.true c.item-item.is (c.loop-item.invariant id) (c.in_ok-note_nodes.ensures id)

pub returns : goal.returns
returns c = λ id. all_nodes _ _ id _ c.loop-item-test.false (c.loop-item.invariant id)
