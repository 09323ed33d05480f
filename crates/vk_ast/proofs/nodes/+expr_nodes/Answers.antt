use Rattle.std.proofs.Common.{◌+◌, min, ap, ◌∙◌, sym, arith}
use Rattle.std.proofs.lemmas.List.{take_all}
use Rattle.vk_ast.specs.declared.expressions.ExprKind.{ExprKind}
use Rattle.vk_ast.specs.Tree.{kind_of, nodes_of, exprs_of, all_nodes}
use Rattle.vk_ast.proofs.Rows.{next_nodes, call_nodes}
use Rattle.vk_ast.proofs.nodes.+expr_nodes.Goals as goal

pub loop-argument-preserved : goal.loop-argument-preserved
loop-argument-preserved t c =
    grind (arith, c.loop-argument.invariant, c.saturating_add-nodes.ensures, c.expr_nodes-in-loop-argument.ensures, next_nodes c.deref-argument-items.result.now c.loop-argument.argument-index c.argument-item.result c.loop-argument-test.true c.argument-item.is)

pub returns-after-loop-argument : goal.returns-after-loop-argument
returns-after-loop-argument t c =
    c.loop-argument.invariant
    ∙ ap (λ es. min (1 + all_nodes (exprs_of es)) 4294967295) (take_all c.loop-argument.argument-index c.deref-argument-items.result.now c.loop-argument-test.false ∙ c.deref-argument-items.ensures.value)
    ∙ ap (λ n. min n 4294967295) (sym (ap (λ (k : ExprKind). nodes_of (kind_of k c.args.e.now.line c.args.e.now.token)) c.in-Call.is ∙ call_nodes c.in-Call.field-0 c.args.e.now.line c.args.e.now.token c.in-Call.arguments))
