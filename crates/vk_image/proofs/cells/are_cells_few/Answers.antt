use Rattle.std.proofs.Common.{◌∙◌, ◌+◌, ap, ap₂, map, sum}
use Rattle.vk_object.specs.Images.{greatest}
use Rattle.vk_object.specs.Tables.{array_list_of, entry_list_of, tables_of}
use Rattle.vk_image.specs.Inner.Rounds.{capped, cells_at, entry_cells}
use Rattle.vk_image.proofs.Rounds.{few_cells}
use Rattle.vk_image.proofs.cells.are_cells_few.Goals as goal

pub returns : goal.returns
returns c =
    few_cells c.args.tables.now c.in_ok-row.row.items c.saturating_add.result c.in_ok-row.ensures
    (c.saturating_add.ensures ∙ ap₂ (λ a b. capped (a + b))
    (c.array_cells.ensures ∙ ap (λ arrays. capped (sum (map (λ a. (array_list_of a).length) arrays))) c.deref-3.ensures.value)
    (c.greatest_chain-chain.ensures ∙ ap₂ (λ entries row. greatest (map (λ e. entry_cells (tables_of c.args.tables.now) (cells_at row) (entry_list_of e)) entries)) c.deref.ensures.value c.deref-2.ensures.value))
