use Rattle.vk_code.specs.Listing.{listing_of}
use Rattle.vk_code_write.specs.declared.written.FileKind.TheVariants.{Image}
use Rattle.vk_code_write.specs.Inner.Bytes.{code_bytes}
use Rattle.vk_code_write.proofs.Members.{counted}
use Rattle.vk_image_write.proofs.image.put_codes.Goals as goal

pub returns : goal.returns
returns c = record { written = counted 4 c.put_all.result _ _ _ (code_bytes Image) listing_of c.args.codes.now c.in_ok-put_count_u32.ensures.written c.put_all.ensures.written }
