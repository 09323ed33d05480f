use Rattle.vk_ast.specs.Tree.{expr_of}
use Rattle.vk_meaning.specs.Data.{Action}
use Rattle.vk_meaning.specs.Expressions.{Context, address_of, value_of}
use Rattle.vk_rules_names.specs.Seen.{scope_of}
use Rattle.vk_reading_steps.specs.Runs.{Adds, run_of}
use Rattle.vk_reading_steps.specs.Settings.{context_in, variables_in}
use Rattle.vk_reading_steps.proofs.Adds.{adds_value}
use Rattle.vk_reading_statements.proofs.Exits.{exit_does, does_given}
use Rattle.vk_reading_statements.proofs.Storing.{by_first, by_old, by_number, by_done}
use Rattle.vk_reading_statements.proofs.assigning.assign_by.Goals as goal

pub returns-in_err-p-clause-does : goal.returns-in_err-p-clause-does
returns-in_err-p-clause-does g c =
    let context : Context = context_in (g.C.Calls.arrays c.args.calls.now) (g.C.Calls.call c.args.calls.now) c.args.place.now.setting in
    let place : Action = address_of context (scope_of c.args.place.now.scopes) (variables_in c.args.place.now.values.now) (expr_of c.args.target.now) in
    let e : Action = value_of context (scope_of c.args.place.now.scopes) (variables_in c.args.place.now.values.now) (expr_of c.args.e.now) in
    let adds : Adds e = adds_value context (g.met.C.Calls.adds c.args.calls.now) (scope_of c.args.place.now.scopes) (variables_in c.args.place.now.values.now) (expr_of c.args.e.now) in
    exit_does c.from_residual.result c.from_residual.ensures.1 (by_first context c.args.s place e adds c.args.op c.args.t c.in_err-p.ensures.does)

pub returns-in_err-old-clause-does : goal.returns-in_err-old-clause-does
returns-in_err-old-clause-does g c =
    let context : Context = context_in (g.C.Calls.arrays c.args.calls.now) (g.C.Calls.call c.args.calls.now) c.args.place.now.setting in
    let place : Action = address_of context (scope_of c.args.place.now.scopes) (variables_in c.args.place.now.values.now) (expr_of c.args.target.now) in
    let e : Action = value_of context (scope_of c.args.place.now.scopes) (variables_in c.args.place.now.values.now) (expr_of c.args.e.now) in
    let adds : Adds e = adds_value context (g.met.C.Calls.adds c.args.calls.now) (scope_of c.args.place.now.scopes) (variables_in c.args.place.now.values.now) (expr_of c.args.e.now) in
    let now = run_of c.address_of.new.cells.rows.items (g.O.Sink.state c.address_of.new.out) in
    exit_does c.from_residual-in_err-old.result c.from_residual-in_err-old.ensures.1 (by_old context c.args.s place e adds c.args.op c.args.t c.in_ok-p.ensures.does
    ((c.in_err-old.ensures.goes context.arrays (g.O.Sink.state c.address_of.new.out)).goes now _ (does_given now _)))

pub returns-in_err-n-clause-does : goal.returns-in_err-n-clause-does
returns-in_err-n-clause-does g c =
    let context : Context = context_in (g.C.Calls.arrays c.args.calls.now) (g.C.Calls.call c.args.calls.now) c.args.place.now.setting in
    let place : Action = address_of context (scope_of c.args.place.now.scopes) (variables_in c.args.place.now.values.now) (expr_of c.args.target.now) in
    let e : Action = value_of context (scope_of c.args.place.now.scopes) (variables_in c.args.place.now.values.now) (expr_of c.args.e.now) in
    let adds : Adds e = adds_value context (g.met.C.Calls.adds c.args.calls.now) (scope_of c.args.place.now.scopes) (variables_in c.args.place.now.values.now) (expr_of c.args.e.now) in
    let now = run_of c.address_of.new.cells.rows.items (g.O.Sink.state c.address_of.new.out) in
    exit_does c.from_residual-in_err-n.result c.from_residual-in_err-n.ensures.1 (by_number context c.args.s place e adds c.args.op c.args.t c.in_ok-p.ensures.does
    ((c.in_ok-old.ensures.goes context.arrays (g.O.Sink.state c.address_of.new.out)).goes now _ (does_given now _)) c.in_err-n.ensures.does)

pub returns-clause-does : goal.returns-clause-does
returns-clause-does g c =
    let context : Context = context_in (g.C.Calls.arrays c.args.calls.now) (g.C.Calls.call c.args.calls.now) c.args.place.now.setting in
    let place : Action = address_of context (scope_of c.args.place.now.scopes) (variables_in c.args.place.now.values.now) (expr_of c.args.target.now) in
    let e : Action = value_of context (scope_of c.args.place.now.scopes) (variables_in c.args.place.now.values.now) (expr_of c.args.e.now) in
    let adds : Adds e = adds_value context (g.met.C.Calls.adds c.args.calls.now) (scope_of c.args.place.now.scopes) (variables_in c.args.place.now.values.now) (expr_of c.args.e.now) in
    let now = run_of c.address_of.new.cells.rows.items (g.O.Sink.state c.address_of.new.out) in
    by_done context c.args.s place e adds c.args.op c.args.t c.in_ok-p.ensures.does
    ((c.in_ok-old.ensures.goes context.arrays (g.O.Sink.state c.address_of.new.out)).goes now _ (does_given now _)) c.in_ok-n.ensures.does
    (c.store_at.ensures.does context.arrays (g.O.Sink.state c.combine.new.out))
