use Rattle.std.proofs.Common.{◌≡◌, ◌++◌, take}
use Rattle.std.specs.List.{flat_map}
use Rattle.vk_object.specs.Tables.{array_list_of}
use Rattle.vk_image_write.specs.Inner.Bytes.{array_bytes}
use Rattle.vk_image_write.proofs.arrays.put_each_array.Given as goal

abbrev pub invariant-loop-array : goal.invariant-loop-array
invariant-loop-array l = l.out.items ≡ l.fn.out.items ++ flat_map (λ a. array_bytes (array_list_of a)) (take l.array-index l.arrays)
