use Rattle.vk_kinds.specs.Sizes.{signature_tree}
use Rattle.vk_object_write.specs.Inner.Bytes.{directive_bytes}
use Rattle.vk_code_write.proofs.Members.{counted}
use Rattle.vk_object_write.proofs.functions.put_directives.Goals as goal

pub returns : goal.returns
returns c = record { written = counted 2 c.put_each_directive.result _ _ _ directive_bytes signature_tree c.args.directives.now c.in_ok-put_count_u16.ensures.written c.put_each_directive.ensures.written }
