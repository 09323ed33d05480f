use Rattle.std.proofs.Common.{ap, ◌∙◌}
use Rattle.vk_ast.specs.Tree.{expr_of}
use Rattle.vk_numbers.specs.Operators.{is_on}
use Rattle.vk_meaning.specs.Expressions.{value_of}
use Rattle.vk_meaning.specs.Statements.{Evaluation}
use Rattle.vk_reading_statements.specs.Places.{context_at, scope_in}
use Rattle.vk_reading_statements.proofs.Exits.{exit_decides}
use Rattle.vk_reading_statements.proofs.Flowing.{decides_on, decides_fail}
use Rattle.vk_reading_statements.proofs.parts.holds.Goals as goal

pub returns-in_err-held-clause-decides : goal.returns-in_err-held-clause-decides
returns-in_err-held-clause-decides g c =
    let e : Evaluation = λ vs. value_of (context_at (g.C.Calls.arrays c.args.calls.now) (g.C.Calls.call c.args.calls.now) c.args.body.now) (scope_in c.args.body.now c.args.locals.now c.args.outer) vs (expr_of c.args.e.now) in
    exit_decides c.from_residual.result c.from_residual.ensures.1 (decides_fail e c.in_err-held.ensures.does)

pub returns-clause-decides : goal.returns-clause-decides
returns-clause-decides g c =
    let e : Evaluation = λ vs. value_of (context_at (g.C.Calls.arrays c.args.calls.now) (g.C.Calls.call c.args.calls.now) c.args.body.now) (scope_in c.args.body.now c.args.locals.now c.args.outer) vs (expr_of c.args.e.now) in
    decides_on e c.is_on.result (c.is_on.ensures ∙ ap is_on c.number_in.ensures.number) c.in_ok-held.ensures.does
