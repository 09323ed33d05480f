use Rattle.vk_object.specs.Objects.{function_list_of}
use Rattle.vk_object_write.specs.Inner.Bytes.{function_bytes}
use Rattle.vk_code_write.proofs.Members.{counted}
use Rattle.vk_object_write.proofs.functions.put_functions.Goals as goal

pub returns : goal.returns
returns c = record { written = counted 4 c.put_each_function.result _ _ _ function_bytes function_list_of c.args.functions.now c.in_ok-put_count_u32.ensures.written c.put_each_function.ensures.written }
