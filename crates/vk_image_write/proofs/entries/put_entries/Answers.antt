use Rattle.vk_object.specs.Tables.{entry_list_of}
use Rattle.vk_image_write.specs.Inner.Bytes.{entry_bytes}
use Rattle.vk_code_write.proofs.Members.{counted}
use Rattle.vk_image_write.proofs.entries.put_entries.Goals as goal

pub returns : goal.returns
returns c = record { written = counted 4 c.put_each_entry.result _ _ _ entry_bytes entry_list_of c.args.entries.now c.in_ok-put_count_u32.ensures.written c.put_each_entry.ensures.written }
