use Rattle.vk_ast.specs.Tree.{expr_of}
use Rattle.vk_meaning.specs.Data.{Action}
use Rattle.vk_meaning.specs.Expressions.{Context, address_of, value_of}
use Rattle.vk_rules_names.specs.Seen.{scope_of}
use Rattle.vk_reading_steps.specs.Runs.{Adds}
use Rattle.vk_reading_steps.specs.Settings.{context_in, variables_in}
use Rattle.vk_reading_steps.proofs.Adds.{adds_value}
use Rattle.vk_reading_statements.proofs.Exits.{exit_does}
use Rattle.vk_reading_statements.proofs.Storing.{plain_first, plain_second, plain_done}
use Rattle.vk_reading_statements.proofs.assigning.assign.Goals as goal

pub returns-in_err-to-clause-does : goal.returns-in_err-to-clause-does
returns-in_err-to-clause-does g c =
    let context : Context = context_in (g.C.Calls.arrays c.args.calls.now) (g.C.Calls.call c.args.calls.now) c.args.place.now.setting in
    let place : Action = address_of context (scope_of c.args.place.now.scopes) (variables_in c.args.place.now.values.now) (expr_of c.args.target.now) in
    let e : Action = value_of context (scope_of c.args.place.now.scopes) (variables_in c.args.place.now.values.now) (expr_of c.args.e.now) in
    let adds : Adds e = adds_value context (g.met.C.Calls.adds c.args.calls.now) (scope_of c.args.place.now.scopes) (variables_in c.args.place.now.values.now) (expr_of c.args.e.now) in
    exit_does c.from_residual.result c.from_residual.ensures.1 (plain_first context c.args.s place e adds c.in_err-to.ensures.does)

pub returns-in_err-number-clause-does : goal.returns-in_err-number-clause-does
returns-in_err-number-clause-does g c =
    let context : Context = context_in (g.C.Calls.arrays c.args.calls.now) (g.C.Calls.call c.args.calls.now) c.args.place.now.setting in
    let place : Action = address_of context (scope_of c.args.place.now.scopes) (variables_in c.args.place.now.values.now) (expr_of c.args.target.now) in
    let e : Action = value_of context (scope_of c.args.place.now.scopes) (variables_in c.args.place.now.values.now) (expr_of c.args.e.now) in
    let adds : Adds e = adds_value context (g.met.C.Calls.adds c.args.calls.now) (scope_of c.args.place.now.scopes) (variables_in c.args.place.now.values.now) (expr_of c.args.e.now) in
    exit_does c.from_residual-in_err-number.result c.from_residual-in_err-number.ensures.1 (plain_second context c.args.s place e adds c.in_ok-to.ensures.does c.in_err-number.ensures.does)

pub returns-clause-does : goal.returns-clause-does
returns-clause-does g c =
    let context : Context = context_in (g.C.Calls.arrays c.args.calls.now) (g.C.Calls.call c.args.calls.now) c.args.place.now.setting in
    let place : Action = address_of context (scope_of c.args.place.now.scopes) (variables_in c.args.place.now.values.now) (expr_of c.args.target.now) in
    let e : Action = value_of context (scope_of c.args.place.now.scopes) (variables_in c.args.place.now.values.now) (expr_of c.args.e.now) in
    let adds : Adds e = adds_value context (g.met.C.Calls.adds c.args.calls.now) (scope_of c.args.place.now.scopes) (variables_in c.args.place.now.values.now) (expr_of c.args.e.now) in
    plain_done context c.args.s place e adds c.in_ok-to.ensures.does c.in_ok-number.ensures.does (c.store_at.ensures.does context.arrays (g.O.Sink.state c.evaluate.new.out))
