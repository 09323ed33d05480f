use Rattle.vk_lanes.proofs.Bits.{read_block}
use Rattle.vk_lanes.proofs.mask.LaneMask.block.Goals as goal

pub returns : goal.returns
returns c = read_block c.args.self.now c.args.k c.requires
