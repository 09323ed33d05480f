-- The option of a form tells it.
use Rattle.std.proofs.Common.{ap, ◌∙◌}
use Rattle.vk_ast.specs.Units.{items_of}
use Rattle.vk_rules.specs.Verdicts.{judged}
use Rattle.vk_one_return.specs.Inner.Reading.{form_of_items}
use Rattle.vk_one_return.proofs.Forms.{found_form, small_form}
use Rattle.vk_one_return.proofs.form.form_of.Goals as goal

pub returns-clause-found : goal.returns-clause-found
returns-clause-found c = found_form (judged c.args.checked.now) c.form_of_unit.result (c.form_of_unit.ensures ∙ ap (λ u. form_of_items (items_of u)) c.unit.ensures)

pub returns-clause-small : goal.returns-clause-small
returns-clause-small c sound =
    small_form (judged c.args.checked.now) c.form_of_unit.result (c.form_of_unit.ensures ∙ ap (λ u. form_of_items (items_of u)) c.unit.ensures)
    (λ f there. c.functions_fit.ensures.parameters (judged c.args.checked.now) sound f there) (λ f there. c.definitions_fit.ensures.nodes (judged c.args.checked.now) sound f there)
