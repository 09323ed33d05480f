use Rattle.std.proofs.Common.{◌∙◌, ap, ap₂, max, sym, arith}
use Rattle.vk_image_format.specs.declared.rows.RawEntry.{RawEntry}
use Rattle.vk_image_format.specs.Values.{entry_of, tables_of}
use Rattle.vk_image.specs.Inner.Rounds.{cells_at, entry_cells}
use Rattle.vk_image_faults.proofs.Rounds.{most_more}
use Rattle.vk_image_faults.proofs.cells.greatest_chain.Goals as goal

pub loop-entry-preserved : goal.loop-entry-preserved
loop-entry-preserved c =
    let cells = λ (e : RawEntry). entry_cells (tables_of c.args.image.now) (cells_at c.args.row.now) (entry_of e) in
    c.max-most.ensures ∙ (ap₂ max c.loop-entry.invariant (c.entry_cells.ensures ∙ ap cells c.entry-item.is)
    ∙ sym (most_more cells c.args.entries.now c.loop-entry.entry-index c.entry-item.result (omega arith)))
