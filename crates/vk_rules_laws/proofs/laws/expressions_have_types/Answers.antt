use Rattle.vk_rules_book.specs.Visits.{expression, unit_visits}
use Rattle.vk_rules_laws.proofs.Each.{at_one}
use Rattle.vk_rules_laws.proofs.Typed.{HasType}
use Rattle.vk_rules_laws.proofs.TypedUnits.{unit_typed}
use Rattle.vk_rules_laws.proofs.laws.expressions_have_types.Goals as goal

pub returns : goal.returns
returns c = λ unit types quiet around scope r e is_in.
    at_one HasType (unit_visits unit.texts unit.items) (expression around scope r e) (unit_typed unit types quiet) is_in
