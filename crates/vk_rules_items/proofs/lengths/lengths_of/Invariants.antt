use Rattle.std.proofs.Common.{◌≡◌, map, take}
use Rattle.vk_ast.specs.Units.{item_of}
use Rattle.vk_rules_items.specs.Inner.Counts.{length_of_item}
use Rattle.vk_rules_items.proofs.lengths.lengths_of.Given as goal

abbrev pub invariant-loop-item : goal.invariant-loop-item
invariant-loop-item l = l.lengths.items ≡ map length_of_item (map item_of (take l.item-index l.items))
