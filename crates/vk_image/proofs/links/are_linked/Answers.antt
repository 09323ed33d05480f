use Rattle.std.proofs.Common.{◌∙◌, ap, sym}
use Rattle.std.specs.List.{list_all}
use Rattle.std.proofs.lemmas.List.Folds.{list_all-map}
use Rattle.vk_object.specs.Images.{is_entry}
use Rattle.vk_object.specs.Tables.{entry_list_of, tables_of}
use Rattle.vk_image.proofs.links.are_linked.Goals as goal

pub returns : goal.returns
returns c = c.are_linked_among.ensures ∙ (ap (list_all (λ e. is_entry (tables_of c.args.tables.now) (entry_list_of e))) c.deref.ensures.value ∙ sym (list_all-map (is_entry (tables_of c.args.tables.now)) entry_list_of c.args.tables.now.entries.items))
