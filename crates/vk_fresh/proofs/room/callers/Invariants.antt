use Rattle.std.proofs.Common.{◌≡◌, map, take}
use Rattle.vk_object.specs.Tables.{entry_list_of}
use Rattle.vk_steps.specs.Places.{image_tables}
use Rattle.vk_image.specs.Inner.Rounds.{cells_at, entry_cells}
use Rattle.vk_fresh.proofs.room.callers.Given as goal

-- the cells of the entries so far
abbrev pub invariant-loop-entry : goal.invariant-loop-entry
invariant-loop-entry l = l.next.items ≡ map (λ e. entry_cells (image_tables l.image) (cells_at l.row) (entry_list_of e)) (take l.entry-index l.image.entries.items)
