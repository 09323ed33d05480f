use Rattle.std.proofs.Common.{◌≡◌, take}
use Rattle.vk_image.specs.Inner.Rounds.{cells_at, loop_cells}
use Rattle.vk_image_faults.proofs.cells.loop_cells.Given as goal

-- the most so far
abbrev pub invariant-loop-targets : goal.invariant-loop-targets
invariant-loop-targets l = l.most ≡ loop_cells (cells_at l.row) (take l.targets-index l.loops)
