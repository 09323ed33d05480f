use Rattle.std.proofs.Common.{◌≡◌, ◌++◌, take}
use Rattle.vk_code_write.specs.Inner.Bytes.{elements_bytes}
use Rattle.vk_code_write.proofs.parts.put_elements.Given as goal

abbrev pub invariant-loop-element : goal.invariant-loop-element
invariant-loop-element l = l.out.items ≡ l.fn.out.items ++ elements_bytes l.ty (take l.element-index l.elements)
