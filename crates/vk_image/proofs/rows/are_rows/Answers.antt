use Rattle.std.proofs.Common.{◌∙◌, ap, sym}
use Rattle.std.specs.List.{list_all}
use Rattle.std.proofs.lemmas.List.Folds.{list_all-map}
use Rattle.vk_object.specs.Images.{is_row}
use Rattle.vk_object.specs.Tables.{entry_list_of, tables_of}
use Rattle.vk_image.proofs.rows.are_rows.Goals as goal

pub returns : goal.returns
returns c = c.are_rows_among.ensures ∙ (ap (list_all (λ e. is_row (tables_of c.args.tables.now) (entry_list_of e))) c.deref.ensures.value ∙ sym (list_all-map (is_row (tables_of c.args.tables.now)) entry_list_of c.args.tables.now.entries.items))
