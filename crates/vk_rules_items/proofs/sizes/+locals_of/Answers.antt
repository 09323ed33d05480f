use Rattle.std.proofs.Common.{min, ap, ◌∙◌, sym, arith}
use Rattle.std.proofs.lemmas.List.{take_all}
use Rattle.vk_ast.specs.declared.statements.StmtKind.{StmtKind}
use Rattle.vk_ast.specs.Statements.{stmt_kind_of, list_stmts}
use Rattle.vk_rules_book.specs.Items.{locals_of, all_locals}
use Rattle.vk_rules_items.proofs.Locals.{next_locals, block_locals}
use Rattle.vk_rules_items.proofs.sizes.+locals_of.Goals as goal

pub loop-statement-preserved : goal.loop-statement-preserved
loop-statement-preserved t c =
    grind (arith, c.loop-statement.invariant, c.saturating_add-locals.ensures, c.locals_of-in-loop-statement.ensures, next_locals c.deref-statement-items.result.now c.loop-statement.statement-index c.statement-item.result c.loop-statement-test.true c.statement-item.is)

pub returns-after-loop-statement : goal.returns-after-loop-statement
returns-after-loop-statement t c =
    c.loop-statement.invariant
    ∙ ap (λ ss. min (all_locals (list_stmts ss)) 4294967295) (take_all c.loop-statement.statement-index c.deref-statement-items.result.now c.loop-statement-test.false ∙ c.deref-statement-items.ensures.value)
    ∙ ap (λ n. min n 4294967295) (sym (ap (λ (k : StmtKind). locals_of (stmt_kind_of k c.args.s.now.line c.args.s.now.token)) c.in-Block.is ∙ block_locals c.args.s.now.line c.args.s.now.token c.in-Block.statements))
