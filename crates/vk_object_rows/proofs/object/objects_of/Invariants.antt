use Rattle.std.proofs.Common.{◌≡◌, map, take}
use Rattle.vk_object.specs.Objects.{data_list_of}
use Rattle.vk_object_format.specs.Values.{data_of}
use Rattle.vk_object_rows.proofs.object.objects_of.Given as goal

abbrev pub invariant-loop-row : goal.invariant-loop-row
invariant-loop-row l = map data_list_of l.objects.items ≡ map data_of (take l.row-index l.rows)
