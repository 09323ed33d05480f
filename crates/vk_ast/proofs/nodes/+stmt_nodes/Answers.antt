use Rattle.std.proofs.Common.{◌+◌, min, ap, ◌∙◌, sym, arith}
use Rattle.std.proofs.lemmas.List.{take_all}
use Rattle.vk_ast.specs.declared.statements.StmtKind.{StmtKind}
use Rattle.vk_ast.specs.Statements.{stmt_kind_of, stmt_nodes, list_stmts, all_stmt_nodes}
use Rattle.vk_ast.proofs.Rows.{next_stmt_nodes, block_nodes}
use Rattle.vk_ast.proofs.nodes.+stmt_nodes.Goals as goal

pub loop-statement-preserved : goal.loop-statement-preserved
loop-statement-preserved t c =
    grind (arith, c.loop-statement.invariant, c.saturating_add-nodes.ensures, c.stmt_nodes-in-loop-statement.ensures, next_stmt_nodes c.deref-statement-items.result.now c.loop-statement.statement-index c.statement-item.result c.loop-statement-test.true c.statement-item.is)

pub returns-after-loop-statement : goal.returns-after-loop-statement
returns-after-loop-statement t c =
    c.loop-statement.invariant
    ∙ ap (λ ss. min (1 + all_stmt_nodes (list_stmts ss)) 4294967295) (take_all c.loop-statement.statement-index c.deref-statement-items.result.now c.loop-statement-test.false ∙ c.deref-statement-items.ensures.value)
    ∙ ap (λ n. min n 4294967295) (sym (ap (λ (k : StmtKind). stmt_nodes (stmt_kind_of k c.args.s.now.line c.args.s.now.token)) c.in-Block.is ∙ block_nodes c.args.s.now.line c.args.s.now.token c.in-Block.statements))
