use Rattle.std.proofs.Common.{◌≡◌, ◌++◌, take}
use Rattle.std.specs.List.{flat_map}
use Rattle.vk_object.specs.Objects.{data_list_of}
use Rattle.vk_object_write.specs.Inner.Bytes.{data_bytes}
use Rattle.vk_object_write.proofs.symbols.put_each_object.Given as goal

abbrev pub invariant-loop-object : goal.invariant-loop-object
invariant-loop-object l = l.out.items ≡ l.fn.out.items ++ flat_map (λ d. data_bytes (data_list_of d)) (take l.object-index l.objects)
