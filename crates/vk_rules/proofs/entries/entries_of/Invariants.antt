use Rattle.std.proofs.Common.{[], map, take}
use Rattle.vk_ast.specs.Units.{item_of}
use Rattle.vk_rules_names.specs.Seen.{AreFirst}
use Rattle.vk_rules.specs.Entries.{AreEntries}
use Rattle.vk_rules.specs.Functions.{functions_from}
use Rattle.vk_rules.proofs.entries.entries_of.Given as goal

abbrev pub invariant-loop-number : goal.invariant-loop-number
invariant-loop-number l = record {
  numbers : AreFirst l.items l.first.items l.number;
  entries : AreEntries (functions_from l.names [] (map item_of (take l.number l.items))) l.entries.items;
}
