use Rattle.std.proofs.Common.{rules, ◌≡◌, ◌∙◌, sym}
use Rattle.vk_image_write.specs.Inner.Bytes.{lists_bytes}
use Rattle.vk_image_write.specs.Lists.{image_lists}
use Rattle.vk_image_write.proofs.Tables.{image_written}
use Rattle.vk_image_write.proofs.image.write_image.Goals as goal

pub returns : goal.returns
returns c =
    let plain : c.put_lists.new.out.items ≡ lists_bytes (image_lists c.args.image.now) = search rules in
    record { bytes = plain ∙ sym (image_written (image_lists c.args.image.now)) }
