use Rattle.std.proofs.Common.{◌≡◌, map, take}
use Rattle.vk_image_format.specs.Values.{array_of}
use Rattle.vk_object.specs.Tables.{array_list_of}
use Rattle.vk_image_rows.proofs.image.arrays_of.Given as goal

abbrev pub invariant-loop-row : goal.invariant-loop-row
invariant-loop-row l = map array_list_of l.arrays.items ≡ map array_of (take l.row-index l.rows)
