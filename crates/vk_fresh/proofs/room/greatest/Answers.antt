use Rattle.std.proofs.Common.{◌∙◌, ap₂, max, refl, sym, arith}
use Rattle.vk_fresh.proofs.Rounds.{greatest_next}
use Rattle.vk_fresh.proofs.room.greatest.Goals as goal

pub loop-cells-preserved : goal.loop-cells-preserved
loop-cells-preserved c = c.max-most.ensures ∙ (ap₂ max c.loop-cells.invariant refl ∙ sym (greatest_next c.args.row.now c.loop-cells.cells-index _ (omega arith)))
