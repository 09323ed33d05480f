use Rattle.std.proofs.Common.{◌≡◌, List, length, take, true, false, ap, sym, ◌∙◌, refl, rules}
use Rattle.vk_ast.specs.declared.statements.StmtKind.{StmtKind}
use Rattle.vk_ast.specs.Statements.{stmt_kind_of, stmt_of, list_stmts}
use Rattle.vk_rules_book.specs.declared.contexts.Binding.{Binding}
use Rattle.vk_rules_book.specs.Visits.{after}
use Rattle.vk_rules_names.specs.Seen.{scope_at, unit_of}
use Rattle.vk_rules_book.proofs.Noting.{found_none}
use Rattle.vk_rules_stmt.proofs.Scopes.{cut_back, cut_back_all, next_after}
use Rattle.vk_rules_stmt.proofs.Blocks.{block_after, block_noted, next_noted}
use Rattle.vk_rules_stmt.proofs.statements.+stating.Goals as goal

pub judge_all-loop-s-init : goal.judge_all-loop-s-init
judge_all-loop-s-init t c = record { scope = refl; noted = sym (found_none _ _) }

pub judge_all-loop-s-preserved : goal.judge_all-loop-s-preserved
judge_all-loop-s-preserved t c = record {
  scope = next_after _ _ _ _ _ _ c.loop-s-test.true c.s-item.is c.loop-s.invariant.scope c.in_ok-judge_stmt.ensures.scope;
  noted = next_noted _ _ _ _ _ _ _ _ _ _ c.loop-s-test.true c.s-item.is c.loop-s.invariant.scope c.loop-s.invariant.noted c.in_ok-judge_stmt.ensures.noted;
}

pub judge_block-returns-clause-same : goal.judge_block-returns-clause-same
judge_block-returns-clause-same t c =
    let mark : c.len-mark.result ≡ length c.args.inner.now.items = search rules in
    cut_back_all (scope_at c.args.place.now c.args.inner.now.items c.len-mark.result) (scope_at c.args.place.now c.judge_all.new.inner.items c.len-mark.result) (list_stmts c.args.ss.now) _ c.in_ok-judge_all.ensures.scope (c.truncate.ensures.items ∙ ap (λ n. take n c.judge_all.new.inner.items) mark)

pub judge_stmt-returns-in_ok-judge_all-in-Block-clause-scope : goal.judge_stmt-returns-in_ok-judge_all-in-Block-clause-scope
judge_stmt-returns-in_ok-judge_all-in-Block-clause-scope t c =
    block_after _ _ _ _ c.args.s.now.line c.args.s.now.token c.in-Block.ss _ c.in-Block.is c.deref.ensures.value c.if-shares.true c.in_ok-judge_all-in-Block.ensures.scope

pub judge_stmt-returns-in_ok-judge_all-in-Block-clause-noted : goal.judge_stmt-returns-in_ok-judge_all-in-Block-clause-noted
judge_stmt-returns-in_ok-judge_all-in-Block-clause-noted t c =
    block_noted (unit_of c.args.place.now) _ _ true _ _ c.args.s.now.line c.args.s.now.token c.in-Block.ss _ _ _ _ c.in-Block.is c.deref.ensures.value c.if-shares.true c.judge_itself.ensures c.in_ok-judge_all-in-Block.ensures.noted

pub judge_stmt-returns-in_ok-judge_block-in-Block-clause-noted : goal.judge_stmt-returns-in_ok-judge_block-in-Block-clause-noted
judge_stmt-returns-in_ok-judge_block-in-Block-clause-noted t c =
    block_noted (unit_of c.args.place.now) _ _ false _ _ c.args.s.now.line c.args.s.now.token c.in-Block.ss _ _ _ _ c.in-Block.is c.deref-else-shares.ensures.value c.if-shares.false c.judge_itself.ensures c.in_ok-judge_block-in-Block.ensures.noted

pub judge_stmt-returns-in_ok-judge_inside-in-For-clause-scope : goal.judge_stmt-returns-in_ok-judge_inside-in-For-clause-scope
judge_stmt-returns-in_ok-judge_inside-in-For-clause-scope t c =
    let mark : c.len-mark.result ≡ length c.args.inner.now.items = search rules in
    ap (λ (bs : List Binding). scope_at c.args.place.now bs c.args.outer)
    (cut_back true (scope_at c.args.place.now c.args.inner.now.items c.len-mark.result) (scope_at c.args.place.now c.judge_stmt.new.inner.items c.len-mark.result) (stmt_of c.deref-in-For.result.now) _ c.in_ok-judge_stmt-in-For.ensures.scope
    (c.truncate.ensures.items ∙ ap (take c.len-mark.result) (c.in_ok-judge_inside-in-For.ensures.same ∙ c.in_ok-judge_apart-in-For.ensures.same) ∙ ap (λ n. take n c.judge_stmt.new.inner.items) mark))
    ∙ sym (ap (λ (k : StmtKind). after c.args.shares (scope_at c.args.place.now c.args.inner.now.items c.args.outer) (stmt_kind_of k c.args.s.now.line c.args.s.now.token)) c.in-For.is)
