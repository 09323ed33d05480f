use Rattle.std.proofs.Common.{Option, ap, sym, ◌∙◌}
use Rattle.std.specs.Option.{option_map}
use Rattle.vk_ast.specs.declared.expressions.Expr.{Expr}
use Rattle.vk_ast.specs.declared.statements.StmtKind.{StmtKind}
use Rattle.vk_ast.specs.Statements.{stmt_kind_of}
use Rattle.vk_ast.specs.Tree.{expr_of}
use Rattle.vk_meaning.specs.Statements.{condition_of}
use Rattle.vk_reading_statements.specs.Loops.{test_in}
use Rattle.vk_reading_statements.specs.Places.{context_at, scope_in}
use Rattle.vk_reading_statements.proofs.Exits.{same_test}
use Rattle.vk_reading_statements.proofs.parts.test.Goals as goal

pub returns-in-While-clause-decides : goal.returns-in-While-clause-decides
returns-in-While-clause-decides g c =
    same_test (ap (λ (k : StmtKind). condition_of (context_at (g.C.Calls.arrays c.args.calls.now) (g.C.Calls.call c.args.calls.now) c.args.body.now) (scope_in c.args.body.now c.args.locals.now c.args.outer) (test_in (stmt_kind_of k c.args.s.now.line c.args.s.now.token))) (sym c.in-While.is)) c.holds.ensures.decides

pub returns-in-Do-clause-decides : goal.returns-in-Do-clause-decides
returns-in-Do-clause-decides g c =
    same_test (ap (λ (k : StmtKind). condition_of (context_at (g.C.Calls.arrays c.args.calls.now) (g.C.Calls.call c.args.calls.now) c.args.body.now) (scope_in c.args.body.now c.args.locals.now c.args.outer) (test_in (stmt_kind_of k c.args.s.now.line c.args.s.now.token))) (sym c.in-Do.is)) c.holds-in-Do.ensures.decides

pub returns-in-Some-clause-decides : goal.returns-in-Some-clause-decides
returns-in-Some-clause-decides g c =
    same_test (ap (λ (o : Option Expr). condition_of (context_at (g.C.Calls.arrays c.args.calls.now) (g.C.Calls.call c.args.calls.now) c.args.body.now) (scope_in c.args.body.now c.args.locals.now c.args.outer) (option_map expr_of o)) (sym c.in-Some.is)
    ∙ ap (λ (k : StmtKind). condition_of (context_at (g.C.Calls.arrays c.args.calls.now) (g.C.Calls.call c.args.calls.now) c.args.body.now) (scope_in c.args.body.now c.args.locals.now c.args.outer) (test_in (stmt_kind_of k c.args.s.now.line c.args.s.now.token))) (sym c.in-For.is)) c.holds-in-Some.ensures.decides
