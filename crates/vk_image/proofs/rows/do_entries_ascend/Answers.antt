use Rattle.std.proofs.Common.{◌∙◌, ap, sym}
use Rattle.vk_object.specs.Images.{entry_before}
use Rattle.vk_object.specs.Tables.{entry_list_of}
use Rattle.vk_object.specs.Texts.{ascend}
use Rattle.vk_image.proofs.Lists.{ascend-map}
use Rattle.vk_image.proofs.rows.do_entries_ascend.Goals as goal

pub returns : goal.returns
returns c = c.do_rows_ascend.ensures ∙ (ap (ascend (λ a b. entry_before (entry_list_of a) (entry_list_of b))) c.deref.ensures.value ∙ sym (ascend-map entry_before entry_list_of c.args.tables.now.entries.items))
