use Rattle.std.proofs.Common.{◌≡◌, ◌++◌, filter_map, map, take}
use Rattle.vk_ast.specs.Units.{item_of}
use Rattle.vk_meaning.specs.Programs.{array_defined}
use Rattle.vk_rules.specs.Verdicts.{judged}
use Rattle.vk_reading_rows.specs.Objects.{array_seen}
use Rattle.vk_reading_rows.proofs.objects.add_items.Given as goal

abbrev pub invariant-loop-item : goal.invariant-loop-item
invariant-loop-item l = map array_seen l.list.items ≡ map array_seen l.fn.list.items ++ filter_map (array_defined (judged l.checked)) (map item_of (take l.item-index l.items))
