-- What is known of a unit as a whole, and of the items before one.
use Rattle.std.specs.Prelude.{◌≡◌, List, [], map, take, is_some}
use Rattle.std.specs.List.{list_any}
use Rattle.std.specs.Option.{option_map}
use Rattle.vk_ast.specs.declared.names.NameId.{NameId}
use Rattle.vk_ast.specs.Units.{ItemTree, item_of}
use Rattle.vk_rules_book.specs.Items.{costs, defines, definition_in}
use Rattle.vk_rules_book.specs.Rules.{Subject}
use Rattle.vk_rules_names.specs.Seen.{AreFirst, number_at}
use Rattle.vk_rules_items.specs.declared.survey.Survey.{Survey}
use Rattle.vk_rules_items.specs.declared.seen.Seen.{Seen}
use Rattle.vk_rules_items.specs.Inner.Counts.{length_of_item, nodes_told, up_to_limit}

-- the items of the unit
abbrev pub unit_items : Survey → List ItemTree
unit_items survey = map item_of survey.items.now

-- the unit that is judged
abbrev pub judged : Survey → Subject
judged survey = record { items = unit_items survey; texts = survey.names.now; target = survey.target }

-- the items before the one with the number that comes next
abbrev pub before_of : Survey → Seen → List ItemTree
before_of survey seen = map item_of (take seen.number survey.items.now)

-- The tables are those of the unit: the length of each item, and the nodes of the definition of each function.
pub record IsSurvey (survey : Survey) : Type 0 where
  pub lengths : survey.lengths.items ≡ map length_of_item (unit_items survey)
  pub nodes : (id : NameId) → number_at survey.nodes.items id ≡ option_map nodes_told (definition_in (unit_items survey) id)

-- The tables are those of the items before: the first declaration of each name, which names are defined, and the sum of the
-- costs.
pub record IsSeen (survey : Survey) (seen : Seen) : Type 0 where
  pub first : AreFirst survey.items.now seen.first.items seen.number
  pub defined : (id : NameId) → is_some (number_at seen.defined.items id) ≡ list_any (defines id) (before_of survey seen)
  pub cost : seen.cost ≡ up_to_limit (costs survey.names.now (unit_items survey) [] (before_of survey seen))
