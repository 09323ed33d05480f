-- One array more.
use Rattle.std.proofs.Common.{[], ◌++◌, ap, sym, ◌∙◌}
use Rattle.vk_meaning.specs.World.{Array, array_at}
use Rattle.vk_pointer_texts.specs.Heads.{arrays_of}
use Rattle.vk_cell_lines.specs.Lines.{array_lines}
use Rattle.vk_cell_lines.proofs.Steps.{array_is, one_more}
use Rattle.vk_cell_lines.proofs.lines.cell_lines.Goals as goal

pub loop-array-preserved : goal.loop-array-preserved
loop-array-preserved g c =
    let arrays = arrays_of c.args.heads.now in
    let old = g.B.Cells.memory c.args.before.now in
    let new = g.A.Cells.memory c.args.after.now in
    let k = c.loop-array.array in
    one_more (λ a. array_lines (array_at arrays a) (old a) (new a)) k [] c.loop-array.lines c.array_lines.new.lines c.loop-array.invariant
    (c.in_ok-array_lines.ensures ∙ ap (λ (a : Array). c.loop-array.lines ++ array_lines a (old k) (new k)) (sym (array_is c.args.heads.now k _ c.loop-array-test.true)))
