use Rattle.std.proofs.Common.{◌∙◌, ◌+◌, ap, ap₂, map, sum}
use Rattle.vk_object.specs.Images.{greatest}
use Rattle.vk_image_format.specs.Values.{array_of, entry_of, tables_of}
use Rattle.vk_image.specs.Inner.Rounds.{capped, cells_at, entry_cells}
use Rattle.vk_image_faults.specs.Inner.Told.{has_few_cells}
use Rattle.vk_image_faults.proofs.Rounds.{few_cells}
use Rattle.vk_image_faults.proofs.cells.are_cells_few.Goals as goal

pub returns : goal.returns
unfolding has_few_cells
returns c =
    few_cells c.args.image.now c.in_ok-row.row.items c.saturating_add.result c.in_ok-row.ensures
    (c.saturating_add.ensures ∙ ap₂ (λ a b. capped (a + b))
    (c.array_cells.ensures ∙ ap (λ arrays. capped (sum (map (λ a. (array_of a).length) arrays))) c.as_slice-2.ensures.items)
    (c.greatest_chain-chain.ensures ∙ ap₂ (λ entries row. greatest (map (λ e. entry_cells (tables_of c.args.image.now) (cells_at row) (entry_of e)) entries)) c.as_slice.ensures.items c.deref.ensures.value))
