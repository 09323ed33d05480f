use Rattle.std.proofs.Common.{arith}
use Rattle.vk_lanes.specs.Masks.{is_on}
use Rattle.vk_lanes.specs.Words.{word_in}
use Rattle.vk_lanes.specs.Inner.Patterns.{pattern}
use Rattle.vk_lanes.proofs.Bits.{on_past}
use Rattle.vk_lanes.proofs.Written.{writes_all}
use Rattle.vk_lanes.proofs.kernels.compute.Goals as goal

pub returns : goal.returns
returns c =
    writes_all c.loop-i.i (is_on c.args.mask.now) (λ i. pattern c.args.op c.args.t (word_in c.args.a.now i) (word_in c.args.b.now i)) c.args.d.now c.loop-i.d
    (λ i h. on_past c.args.mask.now i (omega arith)) c.loop-i.invariant
