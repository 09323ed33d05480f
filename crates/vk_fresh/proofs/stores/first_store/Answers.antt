use Rattle.std.proofs.Common.{◌∙◌, ap, map, rules}
use Rattle.vk_object.specs.declared.tables.ArrayRow.{ArrayRow}
use Rattle.vk_object.specs.Tables.{array_list_of}
use Rattle.vk_steps.specs.Places.{image_tables}
use Rattle.vk_fresh.specs.Stores.{first_words}
use Rattle.vk_fresh.proofs.Cells.{first_cells, first_lengths, first_typed}
use Rattle.vk_fresh.proofs.Rounds.{image_parts}
use Rattle.vk_fresh.proofs.stores.first_store.Goals as goal

pub returns-clause-fits : goal.returns-clause-fits
returns-clause-fits c =
    let image = c.args.image.now in
    let rows = c.in_ok-first_rows.field-0.items in
    let arrays = image.arrays.items in
    let e = c.in_ok-first_rows.ensures ∙ ap (map (λ (a : ArrayRow). first_words (array_list_of a))) c.deref.ensures.value in
    let good = (image_parts (image_tables image) image.valid).arrays in
    record {
      counts = search rules;
      lengths = first_lengths rows arrays e good;
      words = first_typed rows arrays e good;
    }

pub returns-clause-cells : goal.returns-clause-cells
returns-clause-cells c =
    let image = c.args.image.now in
    let rows = c.in_ok-first_rows.field-0.items in
    let arrays = image.arrays.items in
    let e = c.in_ok-first_rows.ensures ∙ ap (map (λ (a : ArrayRow). first_words (array_list_of a))) c.deref.ensures.value in
    λ i a k. first_cells rows arrays e (image_parts (image_tables image) image.valid).arrays a k i
