use Rattle.std.proofs.Common.{◌≡◌, length, refl, rules, ◌&&◌, not, bit_and, bit_xor}
use Rattle.vk_lanes.proofs.Bits.{but_bits, lane_by_lane}
use Rattle.vk_lanes.proofs.Vectors.{zip2_of_both}
use Rattle.vk_lanes.proofs.masks.mask_but.Goals as goal

pub returns-clause-lanes : goal.returns-clause-lanes
returns-clause-lanes c =
    let left : length c.args.a.now.bytes ≡ 32 = search rules in
    let right : length c.args.b.now.bytes ≡ 32 = search rules in
    lane_by_lane _ (λ a b. a && not b) but_bits refl c.args.a.now c.args.b.now _ left right c.requires refl (zip2_of_both bit_xor bit_and c.args.a.now.bytes c.args.b.now.bytes)
