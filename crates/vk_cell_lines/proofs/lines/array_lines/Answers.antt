-- One cell more.
use Rattle.std.proofs.Common.{ℕ, ◌++◌, ap₂, ◌∙◌}
use Rattle.vk_pointer_texts.specs.Heads.{array_of}
use Rattle.vk_cell_lines.specs.Lines.{changed_line}
use Rattle.vk_cell_lines.proofs.Steps.{one_more}
use Rattle.vk_cell_lines.proofs.lines.array_lines.Goals as goal

pub loop-index-preserved : goal.loop-index-preserved
loop-index-preserved g c =
    let head = array_of c.args.head.now in
    one_more (λ i. changed_line head (g.B.Cells.memory c.args.before.now c.args.array i) (g.A.Cells.memory c.args.after.now c.args.array i) i) c.loop-index.index c.args.lines.now
    c.loop-index.lines c.changed_line.new.lines c.loop-index.invariant
    (c.in_ok-changed_line.ensures ∙ ap₂ (λ (a : ℕ) (b : ℕ). c.loop-index.lines ++ changed_line head a b c.loop-index.index) c.word-old.ensures c.word-new.ensures)
