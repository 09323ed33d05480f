use Rattle.std.proofs.Common.{◌≡◌, map, take}
use Rattle.vk_image_format.specs.Values.{entry_of, tables_of}
use Rattle.vk_image.specs.Inner.Rounds.{cells_at, entry_cells}
use Rattle.vk_image_faults.proofs.cells.callers.Given as goal

-- the cells of the entries so far
abbrev pub invariant-loop-entry : goal.invariant-loop-entry
invariant-loop-entry l = l.next.items ≡ map (λ e. entry_cells (tables_of l.image) (cells_at l.row) (entry_of e)) (take l.entry-index l.image.entries)
