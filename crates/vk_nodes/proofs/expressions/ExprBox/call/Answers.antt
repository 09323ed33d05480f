use Rattle.std.proofs.Common.{◌≡◌, IfOk, ap, ◌∙◌, subst}
use Rattle.vk_ast.specs.Tree.{expr_of, exprs_of}
use Rattle.vk_ast.specs.Tree as tree
use Rattle.vk_ast.proofs.Rows.{call_seen}
use Rattle.vk_nodes.proofs.expressions.ExprBox.call.Goals as goal

pub returns : goal.returns
returns c =
    subst (λ t. IfOk c.new.result (λ e. expr_of e ≡ t))
    (call_seen c.args.id c.args.first.line c.args.first.token c.arguments.inside.list ∙ ap (λ es. tree.call c.args.first.line c.args.first.token c.args.id (exprs_of es)) c.arguments.view_is) c.new.ensures
