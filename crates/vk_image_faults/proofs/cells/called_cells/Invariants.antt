use Rattle.std.proofs.Common.{◌≡◌, take}
use Rattle.vk_image.specs.Inner.Rounds.{called_cells, cells_at}
use Rattle.vk_image_faults.proofs.cells.called_cells.Given as goal

-- the most so far
abbrev pub invariant-loop-target : goal.invariant-loop-target
invariant-loop-target l = l.most ≡ called_cells (cells_at l.row) (take l.target-index l.targets)
