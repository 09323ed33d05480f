use Rattle.std.proofs.Common.{Option, None, ap, sym, ◌∙◌}
use Rattle.vk_ast.specs.declared.expressions.BinOp.{BinOp}
use Rattle.vk_ast.specs.Tree.{expr_of}
use Rattle.vk_rules_book.specs.Scopes.{Scope}
use Rattle.vk_rules_book.specs.Typings.{typing_of}
use Rattle.vk_meaning.specs.Expressions.{address_of, integer_type, value_of}
use Rattle.vk_meaning.specs.Statements.{Evaluation, assigned, assigned_by, assignment_to, fell}
use Rattle.vk_reading_steps.specs.Settings.{context_in, variables_in}
use Rattle.vk_reading_statements.specs.Places.{context_at, scope_in}
use Rattle.vk_reading_statements.proofs.AddsAll.{adds_fell}
use Rattle.vk_reading_statements.proofs.Constructs.{same_effect}
use Rattle.vk_reading_statements.proofs.Exits.{exit_acts, same_action}
use Rattle.vk_reading_statements.proofs.Flowing.{evaluated_fails, value_dropped}
use Rattle.vk_reading_statements.proofs.parts.assign_to_element.Goals as goal

pub returns-in_err-assign-in-None-clause-acts : goal.returns-in_err-assign-in-None-clause-acts
returns-in_err-assign-in-None-clause-acts g c =
    let p = c.place_in-place.ensures in
    let s = c.integer_type-s.ensures ∙ ap integer_type (c.typing.ensures ∙ ap (λ (sc : Scope). typing_of sc (expr_of c.args.target.now)) p.scope) in
    let e : Evaluation = λ vs. assigned (context_at (g.C.Calls.arrays c.args.calls.now) (g.C.Calls.call c.args.calls.now) c.args.body.now) (integer_type (typing_of (scope_in c.args.body.now c.args.locals.now c.args.outer) (expr_of c.args.target.now))) (address_of (context_at (g.C.Calls.arrays c.args.calls.now) (g.C.Calls.call c.args.calls.now) c.args.body.now) (scope_in c.args.body.now c.args.locals.now c.args.outer) vs (expr_of c.args.target.now)) (value_of (context_at (g.C.Calls.arrays c.args.calls.now) (g.C.Calls.call c.args.calls.now) c.args.body.now) (scope_in c.args.body.now c.args.locals.now c.args.outer) vs (expr_of c.args.e.now)) in
    exit_acts c.from_residual.result c.from_residual.ensures.1 (same_effect (ap (λ (o : Option BinOp). assignment_to (context_at (g.C.Calls.arrays c.args.calls.now) (g.C.Calls.call c.args.calls.now) c.args.body.now) (scope_in c.args.body.now c.args.locals.now c.args.outer) None o (expr_of c.args.target.now) (expr_of c.args.e.now)) (sym c.in-None.is))
    (evaluated_fails e _ (λ d. fell) (λ d. adds_fell) (same_action (λ i. assigned (context_in (g.C.Calls.arrays c.args.calls.now) (g.C.Calls.call c.args.calls.now) (p.setting i)) (s i) (address_of (context_in (g.C.Calls.arrays c.args.calls.now) (g.C.Calls.call c.args.calls.now) (p.setting i)) (p.scope i) (variables_in (p.values i)) (expr_of c.args.target.now)) (value_of (context_in (g.C.Calls.arrays c.args.calls.now) (g.C.Calls.call c.args.calls.now) (p.setting i)) (p.scope i) (variables_in (p.values i)) (expr_of c.args.e.now))) c.in_err-assign-in-None.ensures.does)))

pub returns-in_ok-assign-in-None-clause-acts : goal.returns-in_ok-assign-in-None-clause-acts
returns-in_ok-assign-in-None-clause-acts g c =
    let p = c.place_in-place.ensures in
    let s = c.integer_type-s.ensures ∙ ap integer_type (c.typing.ensures ∙ ap (λ (sc : Scope). typing_of sc (expr_of c.args.target.now)) p.scope) in
    let e : Evaluation = λ vs. assigned (context_at (g.C.Calls.arrays c.args.calls.now) (g.C.Calls.call c.args.calls.now) c.args.body.now) (integer_type (typing_of (scope_in c.args.body.now c.args.locals.now c.args.outer) (expr_of c.args.target.now))) (address_of (context_at (g.C.Calls.arrays c.args.calls.now) (g.C.Calls.call c.args.calls.now) c.args.body.now) (scope_in c.args.body.now c.args.locals.now c.args.outer) vs (expr_of c.args.target.now)) (value_of (context_at (g.C.Calls.arrays c.args.calls.now) (g.C.Calls.call c.args.calls.now) c.args.body.now) (scope_in c.args.body.now c.args.locals.now c.args.outer) vs (expr_of c.args.e.now)) in
    same_effect (ap (λ (o : Option BinOp). assignment_to (context_at (g.C.Calls.arrays c.args.calls.now) (g.C.Calls.call c.args.calls.now) c.args.body.now) (scope_in c.args.body.now c.args.locals.now c.args.outer) None o (expr_of c.args.target.now) (expr_of c.args.e.now)) (sym c.in-None.is)) (value_dropped e (same_action (λ i. assigned (context_in (g.C.Calls.arrays c.args.calls.now) (g.C.Calls.call c.args.calls.now) (p.setting i)) (s i) (address_of (context_in (g.C.Calls.arrays c.args.calls.now) (g.C.Calls.call c.args.calls.now) (p.setting i)) (p.scope i) (variables_in (p.values i)) (expr_of c.args.target.now)) (value_of (context_in (g.C.Calls.arrays c.args.calls.now) (g.C.Calls.call c.args.calls.now) (p.setting i)) (p.scope i) (variables_in (p.values i)) (expr_of c.args.e.now))) c.in_ok-assign-in-None.ensures.does))

pub returns-in_err-assign_by-in-Some-clause-acts : goal.returns-in_err-assign_by-in-Some-clause-acts
returns-in_err-assign_by-in-Some-clause-acts g c =
    let p = c.place_in-place.ensures in
    let s = c.integer_type-s.ensures ∙ ap integer_type (c.typing.ensures ∙ ap (λ (sc : Scope). typing_of sc (expr_of c.args.target.now)) p.scope) in
    let t = c.integer_type-t.ensures ∙ ap integer_type (c.typing-in-Some.ensures ∙ ap (λ (sc : Scope). typing_of sc (expr_of c.args.e.now)) p.scope) in
    let e : Evaluation = λ vs. assigned_by (context_at (g.C.Calls.arrays c.args.calls.now) (g.C.Calls.call c.args.calls.now) c.args.body.now) c.in-Some.op (integer_type (typing_of (scope_in c.args.body.now c.args.locals.now c.args.outer) (expr_of c.args.target.now))) (integer_type (typing_of (scope_in c.args.body.now c.args.locals.now c.args.outer) (expr_of c.args.e.now))) (address_of (context_at (g.C.Calls.arrays c.args.calls.now) (g.C.Calls.call c.args.calls.now) c.args.body.now) (scope_in c.args.body.now c.args.locals.now c.args.outer) vs (expr_of c.args.target.now)) (value_of (context_at (g.C.Calls.arrays c.args.calls.now) (g.C.Calls.call c.args.calls.now) c.args.body.now) (scope_in c.args.body.now c.args.locals.now c.args.outer) vs (expr_of c.args.e.now)) in
    exit_acts c.from_residual-in_err-assign_by-in-Some.result c.from_residual-in_err-assign_by-in-Some.ensures.1 (same_effect (ap (λ (o : Option BinOp). assignment_to (context_at (g.C.Calls.arrays c.args.calls.now) (g.C.Calls.call c.args.calls.now) c.args.body.now) (scope_in c.args.body.now c.args.locals.now c.args.outer) None o (expr_of c.args.target.now) (expr_of c.args.e.now)) (sym c.in-Some.is))
    (evaluated_fails e _ (λ d. fell) (λ d. adds_fell) (same_action (λ i. assigned_by (context_in (g.C.Calls.arrays c.args.calls.now) (g.C.Calls.call c.args.calls.now) (p.setting i)) c.in-Some.op (s i) (t i) (address_of (context_in (g.C.Calls.arrays c.args.calls.now) (g.C.Calls.call c.args.calls.now) (p.setting i)) (p.scope i) (variables_in (p.values i)) (expr_of c.args.target.now)) (value_of (context_in (g.C.Calls.arrays c.args.calls.now) (g.C.Calls.call c.args.calls.now) (p.setting i)) (p.scope i) (variables_in (p.values i)) (expr_of c.args.e.now))) c.in_err-assign_by-in-Some.ensures.does)))

pub returns-in_ok-assign_by-in-Some-clause-acts : goal.returns-in_ok-assign_by-in-Some-clause-acts
returns-in_ok-assign_by-in-Some-clause-acts g c =
    let p = c.place_in-place.ensures in
    let s = c.integer_type-s.ensures ∙ ap integer_type (c.typing.ensures ∙ ap (λ (sc : Scope). typing_of sc (expr_of c.args.target.now)) p.scope) in
    let t = c.integer_type-t.ensures ∙ ap integer_type (c.typing-in-Some.ensures ∙ ap (λ (sc : Scope). typing_of sc (expr_of c.args.e.now)) p.scope) in
    let e : Evaluation = λ vs. assigned_by (context_at (g.C.Calls.arrays c.args.calls.now) (g.C.Calls.call c.args.calls.now) c.args.body.now) c.in-Some.op (integer_type (typing_of (scope_in c.args.body.now c.args.locals.now c.args.outer) (expr_of c.args.target.now))) (integer_type (typing_of (scope_in c.args.body.now c.args.locals.now c.args.outer) (expr_of c.args.e.now))) (address_of (context_at (g.C.Calls.arrays c.args.calls.now) (g.C.Calls.call c.args.calls.now) c.args.body.now) (scope_in c.args.body.now c.args.locals.now c.args.outer) vs (expr_of c.args.target.now)) (value_of (context_at (g.C.Calls.arrays c.args.calls.now) (g.C.Calls.call c.args.calls.now) c.args.body.now) (scope_in c.args.body.now c.args.locals.now c.args.outer) vs (expr_of c.args.e.now)) in
    same_effect (ap (λ (o : Option BinOp). assignment_to (context_at (g.C.Calls.arrays c.args.calls.now) (g.C.Calls.call c.args.calls.now) c.args.body.now) (scope_in c.args.body.now c.args.locals.now c.args.outer) None o (expr_of c.args.target.now) (expr_of c.args.e.now)) (sym c.in-Some.is)) (value_dropped e (same_action (λ i. assigned_by (context_in (g.C.Calls.arrays c.args.calls.now) (g.C.Calls.call c.args.calls.now) (p.setting i)) c.in-Some.op (s i) (t i) (address_of (context_in (g.C.Calls.arrays c.args.calls.now) (g.C.Calls.call c.args.calls.now) (p.setting i)) (p.scope i) (variables_in (p.values i)) (expr_of c.args.target.now)) (value_of (context_in (g.C.Calls.arrays c.args.calls.now) (g.C.Calls.call c.args.calls.now) (p.setting i)) (p.scope i) (variables_in (p.values i)) (expr_of c.args.e.now))) c.in_ok-assign_by-in-Some.ensures.does))
