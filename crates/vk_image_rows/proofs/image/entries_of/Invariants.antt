use Rattle.std.proofs.Common.{◌≡◌, map, take}
use Rattle.vk_image_format.specs.Values.{entry_of}
use Rattle.vk_object.specs.Tables.{entry_list_of}
use Rattle.vk_image_rows.proofs.image.entries_of.Given as goal

abbrev pub invariant-loop-row : goal.invariant-loop-row
invariant-loop-row l = map entry_list_of l.entries.items ≡ map entry_of (take l.row-index l.rows)
