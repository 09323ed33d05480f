use Rattle.vk_ast.specs.Tree.{expr_of}
use Rattle.vk_meaning.specs.Expressions.{value_of}
use Rattle.vk_meaning.specs.Statements.{Evaluation, fell}
use Rattle.vk_reading_statements.specs.Places.{context_at, scope_in}
use Rattle.vk_reading_statements.proofs.AddsAll.{adds_fell}
use Rattle.vk_reading_statements.proofs.Exits.{exit_acts}
use Rattle.vk_reading_statements.proofs.Flowing.{evaluated_fails, value_dropped}
use Rattle.vk_reading_statements.proofs.parts.run_value.Goals as goal

pub returns-in_err-evaluate_here-clause-acts : goal.returns-in_err-evaluate_here-clause-acts
returns-in_err-evaluate_here-clause-acts g c =
    let e : Evaluation = λ vs. value_of (context_at (g.C.Calls.arrays c.args.calls.now) (g.C.Calls.call c.args.calls.now) c.args.body.now) (scope_in c.args.body.now c.args.locals.now c.args.outer) vs (expr_of c.args.e.now) in
    exit_acts c.from_residual.result c.from_residual.ensures.1 (evaluated_fails e _ (λ d. fell) (λ d. adds_fell) c.in_err-evaluate_here.ensures.does)

pub returns-clause-acts : goal.returns-clause-acts
returns-clause-acts g c =
    let e : Evaluation = λ vs. value_of (context_at (g.C.Calls.arrays c.args.calls.now) (g.C.Calls.call c.args.calls.now) c.args.body.now) (scope_in c.args.body.now c.args.locals.now c.args.outer) vs (expr_of c.args.e.now) in
    value_dropped e c.in_ok-evaluate_here.ensures.does
