use Rattle.std.proofs.Common.{ap, sym, ◌∙◌, cond, ◌==◌}
use Rattle.std.specs.Int.{bit_at}
use Rattle.vk_lanes.proofs.Bits.{bit_cleared, bit_set}
use Rattle.vk_lanes.proofs.mask.with_bit.Goals as goal

pub returns-then-on : goal.returns-then-on
returns-then-on c i h = bit_set c.args.byte c.args.place c.requires i h ∙ ap (λ t. cond (i == c.args.place) (cond t 1 0) (bit_at c.args.byte i)) (sym c.if-on.true)

pub returns-else-on : goal.returns-else-on
returns-else-on c i h = bit_cleared c.args.byte c.args.place c.requires i h ∙ ap (λ t. cond (i == c.args.place) (cond t 1 0) (bit_at c.args.byte i)) (sym c.if-on.false)
