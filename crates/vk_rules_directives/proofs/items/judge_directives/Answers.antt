use Rattle.std.proofs.Common.{◌≤◌, List, length, map, take, sym, subst, ap, ◌∙◌, arith}
use Rattle.vk_ast.specs.Units.{item_of}
use Rattle.vk_rules_names.specs.Seen.{item_at, number_at}
use Rattle.vk_rules_names.proofs.Tables.{has_first}
use Rattle.vk_rules_book.proofs.Noting.{found_none}
use Rattle.vk_rules_directives.specs.declared.signed.Signed.{Signed}
use Rattle.vk_rules_directives.specs.Inner.Signed.{Agrees}
use Rattle.vk_rules_directives.proofs.Lists.{agrees_next, agrees_none, below, count_next, item_noted}
use Rattle.vk_rules_directives.proofs.items.judge_directives.Goals as goal

pub loop-number-init : goal.loop-number-init
loop-number-init c = record {
  tables = c.in_ok-tables.ensures;
  numbers = c.in_ok-first.ensures;
  first = has_first c.args.items.now c.in_ok-first.first.items 0 c.in_ok-first.ensures;
  count = ap length c.new-signed.ensures.items;
  agrees = agrees_none _ c.args.items.now c.new-signed.ensures.items;
  noted = sym (found_none _ _);
}

pub judge_item-requires-clause-within : goal.judge_item-requires-clause-within
judge_item-requires-clause-within c =
    λ id n e.
    let within : c.loop-number.number ≤ length c.args.items.now = omega (arith, c.loop-number-test.true) in
    below c.args.items.now c.loop-number.first.items c.loop-number.number (length c.deref-in-loop-number.result.now) id n within c.loop-number.invariant.numbers
    (ap length c.deref-in-loop-number.ensures.value ∙ c.loop-number.invariant.count) (sym (ap (λ xs. number_at xs id) c.deref.ensures.value) ∙ e)

pub judge_item-requires-clause-first : goal.judge_item-requires-clause-first
judge_item-requires-clause-first c = subst (λ (ss : List Signed). Agrees ss c.args.items.now) (sym c.deref-in-loop-number.ensures.value) c.loop-number.invariant.agrees

pub loop-number-preserved : goal.loop-number-preserved
loop-number-preserved c =
    let items = c.args.items.now in
    let k = c.loop-number.number in
    record {
      tables = c.in_ok-own.ensures.tables;
      numbers = c.in_ok-declare_next.ensures.numbers;
      first = c.in_ok-declare_next.ensures.first;
      count = count_next c.loop-number.signed.items c.push.new.self.items c.in_ok-own.own k c.loop-number.invariant.count c.in_ok-push.ensures.items;
      agrees = subst (λ (ss : List Signed). Agrees ss items) (sym c.in_ok-push.ensures.items)
          (agrees_next c.loop-number.signed.items items k c.in_ok-own.own c.index-items-number.result c.loop-number.invariant.count c.loop-number-test.true c.index-items-number.is c.loop-number.invariant.agrees c.in_ok-own.ensures.signed);
      noted = item_noted _ items k c.index-items-number.result _ _ _ c.loop-number-test.true c.index-items-number.is c.loop-number.invariant.noted
          (c.in_ok-own.ensures.noted (map item_of (take k items)) (λ id. ap (λ xs. item_at items xs id) c.deref.ensures.value ∙ c.loop-number.invariant.first id));
    }
