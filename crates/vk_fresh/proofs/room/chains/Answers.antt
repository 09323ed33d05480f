use Rattle.std.proofs.Common.{◌≡◌, ◌∙◌, ◌+◌, ap, arith, map}
use Rattle.std.proofs.lemmas.Result.{IfOk-weaker}
use Rattle.vk_object.specs.declared.tables.Entry.{Entry}
use Rattle.vk_object.specs.Tables.{entry_list_of}
use Rattle.vk_steps.specs.Places.{image_tables}
use Rattle.vk_image.specs.Inner.Rounds.{cells_at, chain_at, entry_cells}
use Rattle.vk_image.proofs.Rounds.{cells_next}
use Rattle.vk_fresh.specs.Room.{parts_of}
use Rattle.vk_fresh.proofs.room.chains.Goals as goal

pub loop-depth-preserved : goal.loop-depth-preserved
loop-depth-preserved c =
    cells_next (parts_of c.args.image.now) c.loop-depth.row.items c.in_ok-row.row.items c.loop-depth.depth c.loop-depth.invariant
    (c.in_ok-row.ensures ∙ ap (λ row. map (λ e. entry_cells (image_tables c.args.image.now) (cells_at row) (entry_list_of e)) c.args.image.now.entries.items) c.deref.ensures.value)

pub returns-clause-round : goal.returns-clause-round
returns-clause-round c =
    let image = c.args.image.now in
    let last : c.loop-depth.depth + 1 ≡ 64 = omega arith in
    IfOk-weaker c.callers-2.result
    (λ next. next.items ≡ map (λ (e : Entry). entry_cells (image_tables image) (cells_at c.deref-2.result.now) (entry_list_of e)) image.entries.items)
    (λ next. cells_at next.items ≡ chain_at (image_tables image) 64)
    (λ next h. cells_next (parts_of image) c.loop-depth.row.items next.items c.loop-depth.depth c.loop-depth.invariant
    (h ∙ ap (λ row. map (λ (e : Entry). entry_cells (image_tables image) (cells_at row) (entry_list_of e)) image.entries.items) c.deref-2.ensures.value)
    ∙ ap (chain_at (image_tables image)) last)
    c.callers-2.ensures
