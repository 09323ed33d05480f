use Rattle.std.proofs.Common.{[], map, refl, subst, sym, take}
use Rattle.vk_ast.specs.Units.{item_of}
use Rattle.vk_rules_book.specs.Rules.{Subject}
use Rattle.vk_rules.specs.Entries.{AreEntries}
use Rattle.vk_rules.specs.Functions.{functions_from}
use Rattle.vk_rules.proofs.Listed.{knows, none_yet, one_more}
use Rattle.vk_rules.proofs.Quiet.{unit_sound}
use Rattle.vk_rules.proofs.entries.entries_of.Goals as goal

pub loop-number-init : goal.loop-number-init
loop-number-init c = record {
  numbers = c.in_ok-first.ensures;
  entries = subst (AreEntries (functions_from c.args.names.now [] [])) (sym c.new-entries.ensures.items) (none_yet c.args.names.now);
}

pub add_item-requires : goal.add_item-requires
add_item-requires c =
    let unit : Subject = record { items = map item_of c.args.items.now; texts = c.args.names.now; target = c.args.target } in
    unit_sound unit c.args.items.now c.loop-number.number c.index-items-number.result refl c.requires c.loop-number-test.true c.index-items-number.is

pub loop-number-preserved : goal.loop-number-preserved
loop-number-preserved c = record {
  numbers = c.in_ok-declare_next.ensures.numbers;
  entries = one_more c.args.names.now c.args.items.now c.loop-number.number c.index-items-number.result _ c.loop-number-test.true c.index-items-number.is
      (c.in_ok-add_item.ensures (map item_of (take c.loop-number.number c.args.items.now))
      (knows c.args.items.now _ _ c.loop-number.number c.deref.ensures.value c.loop-number.invariant.numbers) _ c.loop-number.invariant.entries);
}
