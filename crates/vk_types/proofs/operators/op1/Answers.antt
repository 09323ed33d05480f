-- The complement of the pattern.
use Rattle.std.proofs.Common.{ap, sym, ◌∙◌}
use Rattle.vk_types.specs.Numbers.{number_of}
use Rattle.vk_types.specs.Operators.{op1_number}
use Rattle.vk_types.proofs.Patterns.{not_of_pattern}
use Rattle.vk_types.proofs.operators.op1.Goals as goal

pub returns-in-Not-clause-number : goal.returns-in-Not-clause-number
returns-in-Not-clause-number c =
    c.wrap_pattern.ensures.number ∙ not_of_pattern c.args.t c.args.a.0 c.requires.0 ∙ ap (λ o. op1_number o c.args.t (number_of c.args.t c.args.a.0)) (sym c.in-Not.is)
