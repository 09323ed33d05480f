use Rattle.std.proofs.Common.{◌≡◌, map, take}
use Rattle.vk_reading_rows.specs.Objects.{array_seen}
use Rattle.vk_reading_rows.specs.Inner.Rows.{cells_of, row_seen}
use Rattle.vk_reading_rows.proofs.cells.rows_of.Given as goal

abbrev pub invariant-loop-placed : goal.invariant-loop-placed
invariant-loop-placed l = map row_seen l.rows.items ≡ map cells_of (map array_seen (take l.placed-index l.objects))
