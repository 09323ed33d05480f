-- The lines of the elements so far.
use Rattle.std.proofs.Common.{◌≡◌, ◌++◌, flat_map}
use Rattle.std.specs.List.{range_with_len}
use Rattle.vk_pointer_texts.specs.Heads.{array_of}
use Rattle.vk_cell_lines.specs.Lines.{changed_line}
use Rattle.vk_cell_lines.proofs.lines.array_lines.Given as goal

abbrev pub invariant-loop-index : goal.invariant-loop-index
invariant-loop-index g l = l.lines ≡ l.initial.lines ++ flat_map (λ i. changed_line (array_of l.head) (g.B.Cells.memory l.fn.before l.array i) (g.A.Cells.memory l.fn.after l.array i) i) (range_with_len 0 l.index)
