use Rattle.std.proofs.Common.{◌∙◌, ap₂, max, sym, arith}
use Rattle.vk_image.specs.Inner.Rounds.{cells_at}
use Rattle.vk_image_faults.proofs.Rounds.{most_more}
use Rattle.vk_image_faults.proofs.cells.called_cells.Goals as goal

pub loop-target-preserved : goal.loop-target-preserved
loop-target-preserved c =
    c.max-most.ensures ∙ (ap₂ max c.loop-target.invariant c.cells_at.ensures
    ∙ sym (most_more (cells_at c.args.row.now) c.args.targets.now c.loop-target.target-index _ (omega arith)))
