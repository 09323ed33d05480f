use Rattle.std.proofs.Common.{rules, ◌≡◌, ◌∙◌, sym}
use Rattle.vk_object_write.specs.Inner.Bytes.{lists_bytes}
use Rattle.vk_object_write.specs.Lists.{object_lists}
use Rattle.vk_object_write.proofs.Tables.{object_written}
use Rattle.vk_object_write.proofs.object.write_object.Goals as goal

pub returns : goal.returns
returns c =
    let plain : c.put_lists.new.out.items ≡ lists_bytes (object_lists c.args.object.now) = search rules in
    record { bytes = plain ∙ sym (object_written (object_lists c.args.object.now)) }
