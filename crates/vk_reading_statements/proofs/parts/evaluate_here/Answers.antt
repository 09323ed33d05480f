use Rattle.vk_ast.specs.Tree.{expr_of}
use Rattle.vk_meaning.specs.Expressions.{value_of}
use Rattle.vk_reading_steps.specs.Settings.{context_in, variables_in}
use Rattle.vk_reading_statements.proofs.Exits.{same_action}
use Rattle.vk_reading_statements.proofs.parts.evaluate_here.Goals as goal

pub returns-clause-does : goal.returns-clause-does
returns-clause-does g c = same_action (λ i. value_of (context_in (g.C.Calls.arrays c.args.calls.now) (g.C.Calls.call c.args.calls.now) (c.place_in-place.ensures.setting i)) (c.place_in-place.ensures.scope i)
    (variables_in (c.place_in-place.ensures.values i)) (expr_of c.args.e.now)) c.evaluate.ensures.does
