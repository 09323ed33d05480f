use Rattle.std.proofs.Common.{◌≡◌, map, take}
use Rattle.vk_object.specs.Images.{greatest}
use Rattle.vk_image_format.specs.Values.{entry_of, tables_of}
use Rattle.vk_image.specs.Inner.Rounds.{cells_at, entry_cells}
use Rattle.vk_image_faults.proofs.cells.greatest_chain.Given as goal

-- the most so far
abbrev pub invariant-loop-entry : goal.invariant-loop-entry
invariant-loop-entry l = l.most ≡ greatest (map (λ e. entry_cells (tables_of l.image) (cells_at l.row) (entry_of e)) (take l.entry-index l.entries))
