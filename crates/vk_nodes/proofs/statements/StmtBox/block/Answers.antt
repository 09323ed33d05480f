use Rattle.std.proofs.Common.{◌≡◌, IfOk, ap, ◌∙◌, subst}
use Rattle.vk_ast.specs.Statements.{stmt_of, list_stmts}
use Rattle.vk_ast.specs.Statements as tree
use Rattle.vk_ast.proofs.Rows.{block_seen}
use Rattle.vk_nodes.proofs.statements.StmtBox.block.Goals as goal

pub returns : goal.returns
returns c =
    subst (λ t. IfOk c.new.result (λ s. stmt_of s ≡ t))
    (block_seen c.args.first.line c.args.first.token c.list.inside.list ∙ ap (λ ss. tree.block c.args.first.line c.args.first.token (list_stmts ss)) c.list.view_is) c.new.ensures
