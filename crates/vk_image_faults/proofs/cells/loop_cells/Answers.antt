use Rattle.std.proofs.Common.{◌∙◌, ap₂, max, sym, arith}
use Rattle.vk_object.specs.declared.tables.LoopTargets.{LoopTargets}
use Rattle.vk_image.specs.Inner.Rounds.{cells_at}
use Rattle.vk_image_faults.proofs.Rounds.{most_more}
use Rattle.vk_image_faults.proofs.cells.loop_cells.Goals as goal

pub loop-targets-preserved : goal.loop-targets-preserved
loop-targets-preserved c =
    c.max-most.ensures ∙ (ap₂ max c.loop-targets.invariant (c.max.ensures ∙ ap₂ max c.cells_at.ensures c.cells_at-in-loop-targets.ensures)
    ∙ sym (most_more (λ (t : LoopTargets). max (cells_at c.args.row.now t.chunk) (cells_at c.args.row.now t.rest)) c.args.loops.now c.loop-targets.targets-index _ (omega arith)))
