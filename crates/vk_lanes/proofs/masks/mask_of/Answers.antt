use Rattle.std.proofs.Common.{arith}
use Rattle.vk_lanes.proofs.Bits.{on_past}
use Rattle.vk_lanes.proofs.Written.{sets_all}
use Rattle.vk_lanes.proofs.masks.mask_of.Goals as goal

pub returns-clause-lanes : goal.returns-clause-lanes
returns-clause-lanes c = sets_all c.loop-i.i c.args.mask.now c.args.a.now c.args.d.now c.loop-i.d (λ i h. on_past c.args.mask.now i (omega arith)) c.loop-i.invariant.lanes
