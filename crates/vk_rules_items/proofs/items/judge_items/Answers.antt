use Rattle.std.proofs.Common.{◌+◌, ◌≡◌, List, get_or, length, sym, ap, ◌∙◌, arith}
use Rattle.vk_ast.specs.declared.items.Item.{Item}
use Rattle.vk_rules_book.proofs.Noting.{found_none}
use Rattle.vk_rules_items.specs.Inner.Known.{judged}
use Rattle.vk_rules_items.proofs.Walk.{next_noted}
use Rattle.vk_rules_items.proofs.items.judge_items.Goals as goal

pub loop-item-init : goal.loop-item-init
loop-item-init c = record { number = c.in_ok-seen.ensures.number; seen = c.in_ok-seen.ensures.seen; noted = sym (found_none _ _) }

pub loop-item-preserved : goal.loop-item-preserved
loop-item-preserved c = record {
  number = c.in_ok-judge_item.ensures.number ∙ ap (λ n. n + 1) c.loop-item.invariant.number;
  seen = c.in_ok-judge_item.ensures.seen;
  noted =
      let len : length c.in_ok-survey.survey.items.now ≡ length c.args.items.now = ap (λ (xs : List Item). length xs) c.in_ok-survey.ensures.items in
      next_noted (judged c.in_ok-survey.survey) c.in_ok-survey.survey.names.now c.in_ok-survey.survey.items.now c.loop-item.item-index c.loop-item.seen.number c.item-item.result _ _ _
      (omega (arith, len, c.loop-item-test.true))
      (c.item-item.is ∙ ap (λ (xs : List Item). get_or xs c.loop-item.item-index c.item-item.result) (sym c.in_ok-survey.ensures.items))
      c.loop-item.invariant.number c.loop-item.invariant.noted c.in_ok-judge_item.ensures.noted;
}
