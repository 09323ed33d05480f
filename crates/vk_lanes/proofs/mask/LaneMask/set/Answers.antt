use Rattle.std.proofs.Common.{◌≡◌, length, refl, rules}
use Rattle.vk_lanes.proofs.Bits.{written_lane}
use Rattle.vk_lanes.proofs.mask.LaneMask.set.Goals as goal

pub returns-clause-lanes : goal.returns-clause-lanes
returns-clause-lanes c =
    let long : length c.args.self.now.bytes ≡ 32 = search rules in
    written_lane c.args.self.now _ c.args.lane c.with_bit.result c.args.on long c.requires refl refl c.with_bit.ensures
