use Rattle.vk_kinds.proofs.Facts.{cdt_is_size, nds_is_size, wds_is_size}
use Rattle.vk_kinds.proofs.laws.sizes.Goals as goal

pub returns : goal.returns
returns c = record { cdt = cdt_is_size; nds = nds_is_size; wds = wds_is_size }
