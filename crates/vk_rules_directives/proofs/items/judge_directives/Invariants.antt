use Rattle.std.proofs.Common.{◌≡◌, [], length, map, take}
use Rattle.vk_ast.specs.Units.{item_of}
use Rattle.vk_rules_book.specs.Noting.{found}
use Rattle.vk_rules_book.specs.Visits.{along, directives_part}
use Rattle.vk_rules_names.specs.Seen.{AreFirst, HasFirst}
use Rattle.vk_rules_directives.specs.Inner.Signed.{Agrees}
use Rattle.vk_rules_directives.specs.Inner.Working.{IsReady}
use Rattle.vk_rules_directives.proofs.items.judge_directives.Given as goal

abbrev pub invariant-loop-number : goal.invariant-loop-number
invariant-loop-number l = record {
  tables : IsReady l.tables;
  numbers : AreFirst l.items l.first.items l.number;
  first : HasFirst l.items l.first.items l.number;
  count : length l.signed.items ≡ l.number;
  agrees : Agrees l.signed.items l.items;
  noted : l.note.first ≡ found (record { items = map item_of l.items; texts = l.names; target = l.target }) l.fn.note.first
      (along directives_part [] (map item_of (take l.number l.items)));
}
