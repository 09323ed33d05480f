use Rattle.std.proofs.Common.{ap}
use Rattle.vk_ast.specs.Directives.{directive_of}
use Rattle.vk_ast.specs.Units.{item_of, object_of}
use Rattle.vk_rules_items.proofs.Surveys.{line_adds_none, object_adds_none}
use Rattle.vk_rules_items.proofs.survey.note_nodes.Goals as goal

pub returns-in-Object : goal.returns-in-Object
returns-in-Object c = λ id. object_adds_none (object_of c.in-Object.field-0) (item_of c.args.item.now) id _ (ap item_of c.in-Object.is)

pub returns-in-Lost : goal.returns-in-Lost
returns-in-Lost c = λ id. line_adds_none (directive_of c.in-Lost.field-0) (item_of c.args.item.now) id _ (ap item_of c.in-Lost.is)
