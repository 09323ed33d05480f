use Rattle.std.proofs.Common.{ap, sym, ◌∙◌}
use Rattle.vk_ast.specs.declared.expressions.ExprKind.{ExprKind}
use Rattle.vk_ast.specs.Tree.{kind_of}
use Rattle.vk_rules_book.specs.Typings.{typing_of}
use Rattle.vk_rules_book.specs.Visits.{parts_of}
use Rattle.vk_rules_book.specs.Noting.{found}
use Rattle.vk_rules_names.specs.Seen.{scope_of, unit_in}
use Rattle.vk_rules_expr.proofs.Calls.{call_typed, call_noted, next_fits, next_noted, no_arguments}
use Rattle.vk_rules_book.proofs.Noting.{found_none}
use Rattle.vk_rules_expr.proofs.expressions.+judging.Goals as goal

pub judge_parts-returns-in-Call-clause-typing : goal.judge_parts-returns-in-Call-clause-typing
judge_parts-returns-in-Call-clause-typing t c =
    call_typed (scope_of c.args.scope.now) _ c.args.e.now.line c.args.e.now.token c.in-Call.arguments _ _ _ c.deref-in-Call-3.ensures.value c.meaning-known.ensures c.call_typing.ensures
    ∙ sym (ap (λ (k : ExprKind). typing_of (scope_of c.args.scope.now) (kind_of k c.args.e.now.line c.args.e.now.token)) c.in-Call.is)

pub judge_parts-returns-in-Call-clause-noted : goal.judge_parts-returns-in-Call-clause-noted
judge_parts-returns-in-Call-clause-noted t c =
    call_noted (scope_of c.args.scope.now) (unit_in c.args.scope.now) c.args.around c.args.addressed _ c.args.e.now.line c.args.e.now.token c.in-Call.arguments _ _ _ _ _ _ c.deref-in-Call.ensures.value c.deref-in-Call-2.ensures.value
    c.meaning-known.ensures c.judge_arguments-fits.ensures.noted c.judge_call.ensures
    ∙ sym (ap (λ (k : ExprKind). found (unit_in c.args.scope.now) c.args.note.now.first (parts_of c.args.around (scope_of c.args.scope.now) c.args.addressed (kind_of k c.args.e.now.line c.args.e.now.token))) c.in-Call.is)

pub judge_arguments-loop-number-init : goal.judge_arguments-loop-number-init
judge_arguments-loop-number-init t c = record { fits = no_arguments _; noted = sym (found_none _ _) }

pub judge_arguments-loop-number-preserved : goal.judge_arguments-loop-number-preserved
judge_arguments-loop-number-preserved t c = record {
  fits = next_fits _ _ _ _ _ _ _ _ _ c.loop-number-test.true c.index-arguments-number.is c.loop-number.invariant.fits c.wanted-wanted.ensures c.judge_in_role-t.ensures.typing c.still_fits-fits.ensures;
  noted = next_noted _ _ _ _ _ _ _ _ _ _ _ c.loop-number-test.true c.index-arguments-number.is c.loop-number.invariant.noted c.wanted-wanted.ensures c.judge_in_role-t.ensures.noted;
}
