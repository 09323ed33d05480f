use Rattle.std.proofs.Common.{◌∙◌, ap, map}
use Rattle.vk_image_format.specs.Values.{entry_of, tables_of}
use Rattle.vk_image.specs.Inner.Rounds.{cells_at, entry_cells}
use Rattle.vk_image_faults.proofs.Rounds.{cells_next}
use Rattle.vk_image_faults.proofs.cells.callees.Goals as goal

pub loop-depth-preserved : goal.loop-depth-preserved
loop-depth-preserved c =
    cells_next c.args.image.now c.loop-depth.row.items c.in_ok-row.row.items c.loop-depth.depth c.loop-depth.invariant
    (c.in_ok-row.ensures ∙ ap (λ row. map (λ e. entry_cells (tables_of c.args.image.now) (cells_at row) (entry_of e)) c.args.image.now.entries) c.deref.ensures.value)
