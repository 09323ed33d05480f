use Rattle.vk_code.specs.Listing.{simd_site_of}
use Rattle.vk_code_write.specs.Inner.Bytes.{loop_bytes}
use Rattle.vk_code_write.proofs.Members.{counted}
use Rattle.vk_code_write.proofs.code.put_loops.Goals as goal

pub returns : goal.returns
returns c = record { written = counted 2 c.put_all.result _ _ _ (loop_bytes c.args.file) simd_site_of c.args.loops.now c.in_ok-put_count_u16.ensures.written c.put_all.ensures.written }
