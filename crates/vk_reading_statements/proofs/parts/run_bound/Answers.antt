use Rattle.std.proofs.Common.{sym, ◌∙◌, false}
use Rattle.std.specs.Option.{option_map}
use Rattle.vk_ast.specs.Statements.{stmt_of}
use Rattle.vk_ast.specs.Tree.{expr_of}
use Rattle.vk_meaning.specs.Statements.{told_by}
use Rattle.vk_reading_statements.specs.Places.{context_at, point_in}
use Rattle.vk_reading_statements.proofs.Constructs.{same_effect}
use Rattle.vk_reading_statements.proofs.Declaring.{acts_fell, bound_done, bound_halted, no_bound}
use Rattle.vk_reading_statements.proofs.Exits.{exit_acts}
use Rattle.vk_reading_statements.proofs.Flowing.{goes_on, jumps}
use Rattle.vk_reading_statements.proofs.parts.run_bound.Goals as goal

pub returns-then-is_jump-clause-acts : goal.returns-then-is_jump-clause-acts
returns-then-is_jump-clause-acts g c outside loops b = jumps _ _ _ c.args.flow (sym c.if-is_jump.ensures)

pub returns-in_err-evaluate_here-in-Some-clause-acts : goal.returns-in_err-evaluate_here-in-Some-clause-acts
returns-in_err-evaluate_here-in-Some-clause-acts g c outside loops b =
    let p = point_in c.args.body.now c.args.locals.now c.args.outer false loops in
    exit_acts c.from_residual.result c.from_residual.ensures.1
    (same_effect (sym (goes_on (told_by (context_at (g.C.Calls.arrays c.args.calls.now) (g.C.Calls.call c.args.calls.now) c.args.body.now) outside p (stmt_of c.args.first.now) (option_map expr_of c.args.test.now) b) c.args.flow (sym c.if-is_jump.ensures)))
    (bound_halted (context_at (g.C.Calls.arrays c.args.calls.now) (g.C.Calls.call c.args.calls.now) c.args.body.now) c.args.locals.now.values.items outside p (expr_of c.in-Some.high.now) b (stmt_of c.args.first.now) (option_map expr_of c.args.test.now) c.in-Some.ensures c.in_err-evaluate_here-in-Some.ensures.does))

pub returns-in_ok-evaluate_here-in-Some-clause-acts : goal.returns-in_ok-evaluate_here-in-Some-clause-acts
returns-in_ok-evaluate_here-in-Some-clause-acts g c outside loops b =
    let p = point_in c.args.body.now c.args.locals.now c.args.outer false loops in
    same_effect (sym (goes_on (told_by (context_at (g.C.Calls.arrays c.args.calls.now) (g.C.Calls.call c.args.calls.now) c.args.body.now) outside p (stmt_of c.args.first.now) (option_map expr_of c.args.test.now) b) c.args.flow (sym c.if-is_jump.ensures)))
    (bound_done (context_at (g.C.Calls.arrays c.args.calls.now) (g.C.Calls.call c.args.calls.now) c.args.body.now) c.args.locals.now.values.items outside p (expr_of c.in-Some.high.now) b (stmt_of c.args.first.now) (option_map expr_of c.args.test.now) c.in-Some.ensures c.in_ok-evaluate_here-in-Some.ensures.does)

pub returns-in-None-clause-acts : goal.returns-in-None-clause-acts
returns-in-None-clause-acts g c outside loops b =
    let p = point_in c.args.body.now c.args.locals.now c.args.outer false loops in
    acts_fell _ _ _ (goes_on (told_by (context_at (g.C.Calls.arrays c.args.calls.now) (g.C.Calls.call c.args.calls.now) c.args.body.now) outside p (stmt_of c.args.first.now) (option_map expr_of c.args.test.now) b) c.args.flow (sym c.if-is_jump.ensures)
    ∙ no_bound (context_at (g.C.Calls.arrays c.args.calls.now) (g.C.Calls.call c.args.calls.now) c.args.body.now) outside p b (stmt_of c.args.first.now) (option_map expr_of c.args.test.now) c.in-None.ensures)
