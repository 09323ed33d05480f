use Rattle.vk_meaning.specs.Statements.{Evaluation}
use Rattle.vk_meaning.specs.Points.{Variable}
use Rattle.vk_ast.specs.Tree.{expr_of}
use Rattle.vk_reading_statements.specs.Assigned.{assigned_value}
use Rattle.vk_reading_statements.specs.Places.{context_at, scope_in}
use Rattle.vk_reading_statements.proofs.Constructs.{same_effect}
use Rattle.vk_reading_statements.proofs.Declaring.{assigns}
use Rattle.vk_reading_statements.proofs.Exits.{exit_acts}
use Rattle.vk_reading_statements.proofs.Flowing.{assign_fails, assign_want, value_assigned}
use Rattle.vk_reading_statements.proofs.parts.assign_to_variable.Goals as goal

pub returns-in_err-held-clause-acts : goal.returns-in_err-held-clause-acts
returns-in_err-held-clause-acts g c =
    let v : Variable = record { number = c.args.variable.number; ctype = c.args.variable.ctype } in
    let e : Evaluation = assigned_value (context_at (g.C.Calls.arrays c.args.calls.now) (g.C.Calls.call c.args.calls.now) c.args.body.now) (scope_in c.args.body.now c.args.locals.now c.args.outer) v.number c.args.op (expr_of c.args.target.now) (expr_of c.args.e.now) in
    exit_acts c.from_residual.result c.from_residual.ensures.1 (same_effect (assigns (context_at (g.C.Calls.arrays c.args.calls.now) (g.C.Calls.call c.args.calls.now) c.args.body.now) (scope_in c.args.body.now c.args.locals.now c.args.outer) v c.args.op (expr_of c.args.target.now) (expr_of c.args.e.now)) (assign_fails e v _ c.in_err-held.ensures.does))

pub returns-in-Ok-clause-acts : goal.returns-in-Ok-clause-acts
returns-in-Ok-clause-acts g c =
    let v : Variable = record { number = c.args.variable.number; ctype = c.args.variable.ctype } in
    let e : Evaluation = assigned_value (context_at (g.C.Calls.arrays c.args.calls.now) (g.C.Calls.call c.args.calls.now) c.args.body.now) (scope_in c.args.body.now c.args.locals.now c.args.outer) v.number c.args.op (expr_of c.args.target.now) (expr_of c.args.e.now) in
    same_effect (assigns (context_at (g.C.Calls.arrays c.args.calls.now) (g.C.Calls.call c.args.calls.now) c.args.body.now) (scope_in c.args.body.now c.args.locals.now c.args.outer) v c.args.op (expr_of c.args.target.now) (expr_of c.args.e.now)) (value_assigned e v c.in_ok-held.ensures.does c.in-Ok.ensures.data)

pub returns-in-Err-clause-acts : goal.returns-in-Err-clause-acts
returns-in-Err-clause-acts g c =
    let v : Variable = record { number = c.args.variable.number; ctype = c.args.variable.ctype } in
    let e : Evaluation = assigned_value (context_at (g.C.Calls.arrays c.args.calls.now) (g.C.Calls.call c.args.calls.now) c.args.body.now) (scope_in c.args.body.now c.args.locals.now c.args.outer) v.number c.args.op (expr_of c.args.target.now) (expr_of c.args.e.now) in
    same_effect (assigns (context_at (g.C.Calls.arrays c.args.calls.now) (g.C.Calls.call c.args.calls.now) c.args.body.now) (scope_in c.args.body.now c.args.locals.now c.args.outer) v c.args.op (expr_of c.args.target.now) (expr_of c.args.e.now)) (assign_want e v _ c.in_ok-held.ensures.does)
