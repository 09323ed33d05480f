use Rattle.std.proofs.Common.{◌∙◌, ap, sym}
use Rattle.vk_object.specs.Images.{array_before}
use Rattle.vk_object.specs.Tables.{array_list_of}
use Rattle.vk_object.specs.Texts.{ascend}
use Rattle.vk_image.proofs.Lists.{ascend-map}
use Rattle.vk_image.proofs.arrays.do_arrays_ascend.Goals as goal

pub returns : goal.returns
returns c = c.do_names_ascend.ensures ∙ (ap (ascend (λ a b. array_before (array_list_of a) (array_list_of b))) c.deref.ensures.value ∙ sym (ascend-map array_before array_list_of c.args.tables.now.arrays.items))
