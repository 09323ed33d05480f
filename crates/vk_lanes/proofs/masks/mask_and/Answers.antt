use Rattle.std.proofs.Common.{◌≡◌, length, refl, rules, ◌&&◌}
use Rattle.vk_lanes.proofs.Bits.{and_bits, lane_by_lane}
use Rattle.vk_lanes.proofs.masks.mask_and.Goals as goal

pub returns-clause-lanes : goal.returns-clause-lanes
returns-clause-lanes c =
    let left : length c.args.a.now.bytes ≡ 32 = search rules in
    let right : length c.args.b.now.bytes ≡ 32 = search rules in
    lane_by_lane _ (λ a b. a && b) and_bits refl c.args.a.now c.args.b.now _ left right c.requires refl refl
