use Rattle.std.proofs.Common.{◌≡◌, ◌++◌, take}
use Rattle.std.specs.List.{flat_map}
use Rattle.vk_kinds.specs.Sizes.{signature_tree}
use Rattle.vk_object_write.specs.Inner.Bytes.{directive_bytes}
use Rattle.vk_object_write.proofs.functions.put_each_directive.Given as goal

abbrev pub invariant-loop-directive : goal.invariant-loop-directive
invariant-loop-directive l = l.out.items ≡ l.fn.out.items ++ flat_map (λ s. directive_bytes (signature_tree s)) (take l.directive-index l.directives)
