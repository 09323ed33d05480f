use Rattle.std.proofs.Common.{◌∙◌, ap, ap₂, max, sym, arith}
use Rattle.vk_object.specs.declared.tables.Entry.{Entry}
use Rattle.vk_object.specs.Tables.{entry_list_of, tables_of}
use Rattle.vk_image.specs.Inner.Rounds.{cells_at, entry_cells}
use Rattle.vk_image.proofs.Rounds.{most_more}
use Rattle.vk_image.proofs.cells.greatest_chain.Goals as goal

pub loop-entry-preserved : goal.loop-entry-preserved
loop-entry-preserved c =
    let cells = λ (e : Entry). entry_cells (tables_of c.args.tables.now) (cells_at c.args.row.now) (entry_list_of e) in
    c.max-most.ensures ∙ (ap₂ max c.loop-entry.invariant (c.entry_cells.ensures ∙ ap cells c.entry-item.is)
    ∙ sym (most_more cells c.args.entries.now c.loop-entry.entry-index c.entry-item.result (omega arith)))
