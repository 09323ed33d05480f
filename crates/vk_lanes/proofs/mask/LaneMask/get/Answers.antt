use Rattle.vk_lanes.proofs.Bits.{read_lane}
use Rattle.vk_lanes.proofs.mask.LaneMask.get.Goals as goal

pub returns : goal.returns
returns c = read_lane c.args.self.now c.args.lane c.requires
