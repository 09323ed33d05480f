use Rattle.std.proofs.Common.{map, sym, take}
use Rattle.vk_ast.specs.Units.{item_of}
use Rattle.vk_rules_book.proofs.Noting.{found_none}
use Rattle.vk_rules_names.specs.declared.known.Place.{Place}
use Rattle.vk_rules_functions.proofs.Walk.{declares_next, next_noted}
use Rattle.vk_rules_functions.proofs.items.judge_functions.Goals as goal

pub loop-number-init : goal.loop-number-init
loop-number-init c = record { numbers = c.in_ok-first.ensures; noted = sym (found_none _ _) }

pub loop-number-preserved : goal.loop-number-preserved
loop-number-preserved c =
    let place : Place = record { target = c.args.target; names = c.args.names; items = c.args.items; first = c.deref.result } in
    record {
      numbers = c.in_ok-declare_next.ensures.numbers;
      noted = next_noted _ _ _ _ _ _ _ _ c.loop-number-test.true c.index-items-number.is c.loop-number.invariant.noted
          (c.in_ok-judge_item.ensures (map item_of (take c.loop-number.number c.args.items.now))
          (declares_next place _ _ _ c.deref.ensures.value c.loop-number-test.true c.index-items-number.is c.in_ok-declare_next.ensures.first));
    }
