use Rattle.std.proofs.Common.{◌≡◌, ◌∙◌, ap, arith, get_or, rules}
use Rattle.vk_object.specs.declared.tables.Entry.{Entry}
use Rattle.vk_object.specs.Tables.{entry_list_of}
use Rattle.vk_steps.specs.Places.{image_tables}
use Rattle.vk_image.specs.Inner.Rounds.{cells_at, entry_cells}
use Rattle.vk_fresh.proofs.Rounds.{map_next}
use Rattle.vk_fresh.proofs.room.callers.Goals as goal

pub loop-entry-preserved : goal.loop-entry-preserved
loop-entry-preserved c =
    let entries = c.args.image.now.entries.items in
    let cells = λ (e : Entry). entry_cells (image_tables c.args.image.now) (cells_at c.args.row.now) (entry_list_of e) in
    let item : c.entry-item.result ≡ get_or entries c.loop-entry.entry-index c.entry-item.result = search rules in
    map_next cells entries c.loop-entry.next.items c.push.new.self.items c.loop-entry.entry-index c.entry-item.result c.entry_cells.result
    (omega arith) c.loop-entry.invariant c.in_ok-push.ensures.items (c.entry_cells.ensures ∙ ap cells item)
