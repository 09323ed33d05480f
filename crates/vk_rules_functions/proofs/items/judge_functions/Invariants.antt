use Rattle.std.proofs.Common.{◌≡◌, [], map, take}
use Rattle.vk_ast.specs.Units.{item_of}
use Rattle.vk_rules_book.specs.Noting.{found}
use Rattle.vk_rules_names.specs.Seen.{AreFirst}
use Rattle.vk_rules_book.specs.Visits.{along, function_part}
use Rattle.vk_rules_functions.proofs.items.judge_functions.Given as goal

abbrev pub invariant-loop-number : goal.invariant-loop-number
invariant-loop-number l = record {
  numbers : AreFirst l.items l.first.items l.number;
  noted : l.note.first ≡ found (record { items = map item_of l.items; texts = l.names; target = l.target }) l.fn.note.first
      (along (function_part l.names) [] (map item_of (take l.number l.items)));
}
