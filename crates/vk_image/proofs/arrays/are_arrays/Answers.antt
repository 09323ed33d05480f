use Rattle.std.proofs.Common.{◌∙◌, ap, sym}
use Rattle.std.specs.List.{list_all}
use Rattle.std.proofs.lemmas.List.Folds.{list_all-map}
use Rattle.vk_object.specs.Images.{is_array}
use Rattle.vk_object.specs.Tables.{array_list_of}
use Rattle.vk_image.proofs.arrays.are_arrays.Goals as goal

pub returns : goal.returns
returns c = c.are_rows.ensures ∙ (ap (list_all (λ a. is_array (array_list_of a))) c.deref.ensures.value ∙ sym (list_all-map is_array array_list_of c.args.tables.now.arrays.items))
