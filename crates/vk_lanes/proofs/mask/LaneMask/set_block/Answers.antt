use Rattle.std.proofs.Common.{◌≡◌, length, refl, rules}
use Rattle.vk_lanes.proofs.Bits.{written_block}
use Rattle.vk_lanes.proofs.mask.LaneMask.set_block.Goals as goal

pub returns-clause-lanes : goal.returns-clause-lanes
returns-clause-lanes c =
    let long : length c.args.self.now.bytes ≡ 32 = search rules in
    written_block c.args.self.now _ c.args.k c.args.lanes long c.requires refl refl
