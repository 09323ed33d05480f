use Rattle.std.proofs.Common.{◌≡◌, flat_map, map, take}
use Rattle.vk_reading_rows.specs.Objects.{array_seen, subjects_of}
use Rattle.vk_reading_rows.specs.Inner.Collected.{objects_of_unit}
use Rattle.vk_reading_rows.proofs.objects.objects_of.Given as goal

abbrev pub invariant-loop-checked : goal.invariant-loop-checked
invariant-loop-checked l = map array_seen l.list.items ≡ flat_map objects_of_unit (subjects_of (take l.checked-index l.units))
