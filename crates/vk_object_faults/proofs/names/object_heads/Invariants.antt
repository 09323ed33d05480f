use Rattle.std.proofs.Common.{◌≡◌, ℕ, ◌+◌, ◌<◌, ◌==◌, count_by, get_or, length, map, take}
use Rattle.std.specs.List.{sum_by}
use Rattle.vk_object.specs.Objects.{object_of}
use Rattle.vk_object_format.specs.Values.{data_of}
use Rattle.vk_object_faults.proofs.names.object_heads.Given as goal

abbrev pub invariant-loop-object : goal.invariant-loop-object
invariant-loop-object l = l.heads.items ≡ map object_of (map data_of (take l.object-index l.objects))
