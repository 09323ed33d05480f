use Rattle.std.proofs.Common.{◌≡◌, take}
use Rattle.vk_object.specs.Images.{greatest}
use Rattle.vk_fresh.proofs.room.greatest.Given as goal

-- the greatest so far
abbrev pub invariant-loop-cells : goal.invariant-loop-cells
invariant-loop-cells l = l.most ≡ greatest (take l.cells-index l.row)
