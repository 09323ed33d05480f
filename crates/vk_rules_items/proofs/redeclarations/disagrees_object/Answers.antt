use Rattle.std.proofs.Common.{ap, sym, ◌∙◌}
use Rattle.vk_ast.specs.declared.items.Item.{Item}
use Rattle.vk_ast.specs.Units.{item_of, object, object_of}
use Rattle.vk_rules_book.specs.Items.{agrees}
use Rattle.vk_rules_items.specs.Inner.Counts.{length_of_item}
use Rattle.vk_rules_items.proofs.Declared.{disagrees_at}
use Rattle.vk_rules_items.proofs.Surveys.{length_at}
use Rattle.vk_rules_items.proofs.redeclarations.disagrees_object.Goals as goal

pub agrees_object-requires-clause-first : goal.agrees_object-requires-clause-first
agrees_object-requires-clause-first c =
    length_at c.args.survey.now.items.now c.in-Some.number c.index-survey-number.result _ _ c.if-number-survey.false c.index-survey-number.is c.requires.survey.lengths c.index.ensures
    ∙ ap (λ (x : Item). length_of_item (item_of x)) c.index-survey-number.is

pub returns : goal.returns
returns c =
    disagrees_at c.args.survey.now.items.now c.in-Some.number c.index-survey-number.result (object (object_of c.args.o.now)) _ _ c.in-Some.is c.if-number-survey.false c.index-survey-number.is
    (c.agrees_object.ensures ∙ ap (λ (x : Item). agrees (item_of x) (object (object_of c.args.o.now))) (sym c.index-survey-number.is))
