use Rattle.std.proofs.Common.{Option, ap, sym}
use Rattle.std.specs.Option.{option_map}
use Rattle.vk_ast.specs.declared.expressions.Expr.{Expr}
use Rattle.vk_ast.specs.Tree.{expr_of}
use Rattle.vk_meaning.specs.Points.{Variable}
use Rattle.vk_meaning.specs.Expressions.{value_of}
use Rattle.vk_meaning.specs.Statements.{Evaluation, initialised}
use Rattle.vk_reading_statements.specs.Places.{context_at, scope_in}
use Rattle.vk_reading_statements.proofs.Constructs.{same_effect}
use Rattle.vk_reading_statements.proofs.Declaring.{acts_fell}
use Rattle.vk_reading_statements.proofs.Exits.{exit_acts}
use Rattle.vk_reading_statements.proofs.Flowing.{assign_fails, assign_want, value_assigned}
use Rattle.vk_reading_statements.proofs.parts.initialise.Goals as goal

pub returns-in_err-held-in-Some-clause-acts : goal.returns-in_err-held-in-Some-clause-acts
returns-in_err-held-in-Some-clause-acts g c =
    let e : Evaluation = λ vs. value_of (context_at (g.C.Calls.arrays c.args.calls.now) (g.C.Calls.call c.args.calls.now) c.args.body.now) (scope_in c.args.body.now c.args.locals.now c.args.outer) vs (expr_of c.in-Some.e) in
    let v : Variable = record { number = c.args.variable.number; ctype = c.args.variable.ctype } in
    exit_acts c.from_residual.result c.from_residual.ensures.1 (same_effect (ap (λ (o : Option Expr). initialised (context_at (g.C.Calls.arrays c.args.calls.now) (g.C.Calls.call c.args.calls.now) c.args.body.now) (scope_in c.args.body.now c.args.locals.now c.args.outer) v (option_map expr_of o)) (sym c.in-Some.is))
    (assign_fails e v _ c.in_err-held-in-Some.ensures.does))

pub returns-in-Ok-clause-acts : goal.returns-in-Ok-clause-acts
returns-in-Ok-clause-acts g c =
    let e : Evaluation = λ vs. value_of (context_at (g.C.Calls.arrays c.args.calls.now) (g.C.Calls.call c.args.calls.now) c.args.body.now) (scope_in c.args.body.now c.args.locals.now c.args.outer) vs (expr_of c.in-Some.e) in
    let v : Variable = record { number = c.args.variable.number; ctype = c.args.variable.ctype } in
    same_effect (ap (λ (o : Option Expr). initialised (context_at (g.C.Calls.arrays c.args.calls.now) (g.C.Calls.call c.args.calls.now) c.args.body.now) (scope_in c.args.body.now c.args.locals.now c.args.outer) v (option_map expr_of o)) (sym c.in-Some.is)) (value_assigned e v c.in_ok-held-in-Some.ensures.does c.in-Ok.ensures.data)

pub returns-in-Err-clause-acts : goal.returns-in-Err-clause-acts
returns-in-Err-clause-acts g c =
    let e : Evaluation = λ vs. value_of (context_at (g.C.Calls.arrays c.args.calls.now) (g.C.Calls.call c.args.calls.now) c.args.body.now) (scope_in c.args.body.now c.args.locals.now c.args.outer) vs (expr_of c.in-Some.e) in
    let v : Variable = record { number = c.args.variable.number; ctype = c.args.variable.ctype } in
    same_effect (ap (λ (o : Option Expr). initialised (context_at (g.C.Calls.arrays c.args.calls.now) (g.C.Calls.call c.args.calls.now) c.args.body.now) (scope_in c.args.body.now c.args.locals.now c.args.outer) v (option_map expr_of o)) (sym c.in-Some.is)) (assign_want e v _ c.in_ok-held-in-Some.ensures.does)

pub returns-in-None-clause-acts : goal.returns-in-None-clause-acts
returns-in-None-clause-acts g c =
    let v : Variable = record { number = c.args.variable.number; ctype = c.args.variable.ctype } in
    acts_fell _ _ _ (ap (λ (o : Option Expr). initialised (context_at (g.C.Calls.arrays c.args.calls.now) (g.C.Calls.call c.args.calls.now) c.args.body.now) (scope_in c.args.body.now c.args.locals.now c.args.outer) v (option_map expr_of o)) c.in-None.is)
