-- The lines of the arrays so far.
use Rattle.std.proofs.Common.{◌≡◌, flat_map}
use Rattle.std.specs.List.{range_with_len}
use Rattle.vk_meaning.specs.World.{array_at}
use Rattle.vk_pointer_texts.specs.Heads.{arrays_of}
use Rattle.vk_cell_lines.specs.Lines.{array_lines}
use Rattle.vk_cell_lines.proofs.lines.cell_lines.Given as goal

abbrev pub invariant-loop-array : goal.invariant-loop-array
invariant-loop-array g l = l.lines ≡ flat_map (λ a. array_lines (array_at (arrays_of l.heads) a) (g.B.Cells.memory l.fn.before a) (g.A.Cells.memory l.fn.after a)) (range_with_len 0 l.array)
