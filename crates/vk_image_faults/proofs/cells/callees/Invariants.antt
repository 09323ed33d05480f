use Rattle.std.proofs.Common.{◌≡◌}
use Rattle.vk_image_format.specs.Values.{tables_of}
use Rattle.vk_image.specs.Inner.Rounds.{cells_at, chain_at}
use Rattle.vk_image_faults.proofs.cells.callees.Given as goal

-- what the row says is so
abbrev pub invariant-loop-depth : goal.invariant-loop-depth
invariant-loop-depth l = cells_at l.row.items ≡ chain_at (tables_of l.image) l.depth
