use Rattle.std.proofs.Common.{◌≡◌, map, take}
use Rattle.std.specs.Option.{option_map}
use Rattle.vk_ast.specs.declared.names.NameId.{NameId}
use Rattle.vk_ast.specs.Units.{item_of}
use Rattle.vk_rules_book.specs.Items.{definition_in}
use Rattle.vk_rules_names.specs.Seen.{number_at}
use Rattle.vk_rules_items.specs.Inner.Counts.{nodes_told}
use Rattle.vk_rules_items.proofs.survey.nodes_of_definitions.Given as goal

abbrev pub invariant-loop-item : goal.invariant-loop-item
invariant-loop-item l = (id : NameId) → number_at l.nodes.items id ≡ option_map nodes_told (definition_in (map item_of (take l.item-index l.items)) id)
