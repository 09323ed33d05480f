use Rattle.std.proofs.Common.{◌≡◌, [], map, take}
use Rattle.vk_ast.specs.Units.{item_of}
use Rattle.vk_rules_book.specs.Noting.{found}
use Rattle.vk_rules_book.specs.Visits.{along, item_part}
use Rattle.vk_rules_items.specs.Inner.Known.{IsSeen, judged}
use Rattle.vk_rules_items.proofs.items.judge_items.Given as goal

abbrev pub invariant-loop-item : goal.invariant-loop-item
invariant-loop-item l = record {
  number : l.seen.number ≡ l.item-index;
  seen : IsSeen l.survey l.seen;
  noted : l.note.first ≡ found (judged l.survey) l.fn.note.first (along (item_part l.survey.names.now) [] (map item_of (take l.item-index l.survey.items.now)));
}
