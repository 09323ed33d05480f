use Rattle.std.proofs.Common.{◌<◌, ◌^◌, ◌∙◌, ap, sym, subst, eqb, ℕ}
use Rattle.std.specs.Int.{bit_at}
use Rattle.vk_lanes.proofs.Bits.{nonzero-lt, nonzero_bit, nonzero_mask}
use Rattle.vk_lanes.proofs.masks.nonzero8.Goals as goal

pub overflow_cast-result : goal.overflow_cast-result
overflow_cast-result c = record { fits = subst (λ (n : ℕ). n < 2 ^ 8) (sym (nonzero_mask c.args.words c.requires)) (nonzero-lt c.args.words c.requires) }

pub returns : goal.returns
returns c i h = ap (λ n. eqb (bit_at n i) 1) (nonzero_mask c.args.words c.requires) ∙ nonzero_bit c.args.words c.requires i h
