use Rattle.vk_object.specs.Objects.{data_list_of}
use Rattle.vk_object_write.specs.Inner.Bytes.{data_bytes}
use Rattle.vk_code_write.proofs.Members.{counted}
use Rattle.vk_object_write.proofs.symbols.put_objects.Goals as goal

pub returns : goal.returns
returns c = record { written = counted 4 c.put_each_object.result _ _ _ data_bytes data_list_of c.args.objects.now c.in_ok-put_count_u32.ensures.written c.put_each_object.ensures.written }
