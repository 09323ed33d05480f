use Rattle.vk_code.specs.Listing.{listing_of}
use Rattle.vk_code_write.specs.declared.written.FileKind.TheVariants.{Object}
use Rattle.vk_code_write.specs.Inner.Bytes.{code_bytes}
use Rattle.vk_code_write.proofs.Members.{listed}
use Rattle.vk_object_write.proofs.functions.put_lanes.Goals as goal

pub returns : goal.returns
returns c = record { written = listed c.put_all.result _ _ (code_bytes Object) listing_of c.args.lanes.now c.put_all.ensures.written }
