use Rattle.vk_code.specs.Listing.{call_site_of}
use Rattle.vk_code_write.specs.Inner.Bytes.{slot_bytes}
use Rattle.vk_code_write.proofs.Members.{counted}
use Rattle.vk_code_write.proofs.code.put_slots.Goals as goal

pub returns : goal.returns
returns c = record { written = counted 2 c.put_all.result _ _ _ (slot_bytes c.args.file) call_site_of c.args.slots.now c.in_ok-put_count_u16.ensures.written c.put_all.ensures.written }
