use Rattle.std.proofs.Common.{◌≡◌, ◌++◌, take}
use Rattle.std.specs.List.{flat_map}
use Rattle.vk_object.specs.Objects.{function_list_of}
use Rattle.vk_object_write.specs.Inner.Bytes.{function_bytes}
use Rattle.vk_object_write.proofs.functions.put_each_function.Given as goal

abbrev pub invariant-loop-function : goal.invariant-loop-function
invariant-loop-function l = l.out.items ≡ l.fn.out.items ++ flat_map (λ f. function_bytes (function_list_of f)) (take l.function-index l.functions)
