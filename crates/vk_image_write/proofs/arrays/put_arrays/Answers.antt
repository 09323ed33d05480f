use Rattle.vk_object.specs.Tables.{array_list_of}
use Rattle.vk_image_write.specs.Inner.Bytes.{array_bytes}
use Rattle.vk_code_write.proofs.Members.{counted}
use Rattle.vk_image_write.proofs.arrays.put_arrays.Goals as goal

pub returns : goal.returns
returns c = record { written = counted 4 c.put_each_array.result _ _ _ array_bytes array_list_of c.args.arrays.now c.in_ok-put_count_u32.ensures.written c.put_each_array.ensures.written }
