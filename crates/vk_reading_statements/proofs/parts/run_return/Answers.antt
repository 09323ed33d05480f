use Rattle.std.proofs.Common.{Option, None, refl, ap, sym}
use Rattle.std.specs.Option.{option_map}
use Rattle.vk_ast.specs.declared.expressions.Expr.{Expr}
use Rattle.vk_ast.specs.Tree.{expr_of}
use Rattle.vk_meaning.specs.Data.{as_type}
use Rattle.vk_meaning.specs.Expressions.{value_of}
use Rattle.vk_meaning.specs.Statements.{Evaluation, return_of, returned}
use Rattle.vk_reading_statements.specs.declared.flow.Flow.TheVariants.{Returned}
use Rattle.vk_reading.specs.declared.held.Held.TheVariants.{Nothing}
use Rattle.vk_reading_statements.specs.Places.{context_at, scope_in}
use Rattle.vk_reading_statements.proofs.Constructs.{same_effect}
use Rattle.vk_reading_statements.proofs.Exits.{exit_acts}
use Rattle.vk_reading_statements.proofs.Flowing.{acts_ended, adds_returned, evaluated_fails, value_returned}
use Rattle.vk_reading_statements.proofs.parts.run_return.Goals as goal

pub returns-in_err-held-in-Some-clause-acts : goal.returns-in_err-held-in-Some-clause-acts
returns-in_err-held-in-Some-clause-acts g c =
    let e : Evaluation = λ vs. value_of (context_at (g.C.Calls.arrays c.args.calls.now) (g.C.Calls.call c.args.calls.now) c.args.body.now) (scope_in c.args.body.now c.args.locals.now c.args.outer) vs (expr_of c.in-Some.e) in
    exit_acts c.from_residual.result c.from_residual.ensures.1 (same_effect (ap (λ (o : Option Expr). return_of (context_at (g.C.Calls.arrays c.args.calls.now) (g.C.Calls.call c.args.calls.now) c.args.body.now) (scope_in c.args.body.now c.args.locals.now c.args.outer) (option_map expr_of o)) (sym c.in-Some.is))
    (evaluated_fails e _ (λ d s. returned (as_type c.args.body.now.setting.result d) s.world) (λ d. adds_returned _ d) c.in_err-held-in-Some.ensures.does))

pub returns-in_ok-held-in-Some-clause-acts : goal.returns-in_ok-held-in-Some-clause-acts
returns-in_ok-held-in-Some-clause-acts g c =
    let e : Evaluation = λ vs. value_of (context_at (g.C.Calls.arrays c.args.calls.now) (g.C.Calls.call c.args.calls.now) c.args.body.now) (scope_in c.args.body.now c.args.locals.now c.args.outer) vs (expr_of c.in-Some.e) in
    same_effect (ap (λ (o : Option Expr). return_of (context_at (g.C.Calls.arrays c.args.calls.now) (g.C.Calls.call c.args.calls.now) c.args.body.now) (scope_in c.args.body.now c.args.locals.now c.args.outer) (option_map expr_of o)) (sym c.in-Some.is))
    (value_returned e c.args.body.now.setting.result c.in_ok-held-in-Some.ensures.does c.as_type.ensures.datum)

pub returns-in-None-clause-acts : goal.returns-in-None-clause-acts
returns-in-None-clause-acts g c =
    same_effect (ap (λ (o : Option Expr). return_of (context_at (g.C.Calls.arrays c.args.calls.now) (g.C.Calls.call c.args.calls.now) c.args.body.now) (scope_in c.args.body.now c.args.locals.now c.args.outer) (option_map expr_of o)) (sym c.in-None.is)) (acts_ended _ _ (return_of (context_at (g.C.Calls.arrays c.args.calls.now) (g.C.Calls.call c.args.calls.now) c.args.body.now) (scope_in c.args.body.now c.args.locals.now c.args.outer) None) (Returned Nothing) (λ w. refl))
