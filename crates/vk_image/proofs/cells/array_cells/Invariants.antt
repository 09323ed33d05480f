use Rattle.std.proofs.Common.{◌≡◌, map, sum, take}
use Rattle.vk_object.specs.Tables.{array_list_of}
use Rattle.vk_image.specs.Inner.Rounds.{capped}
use Rattle.vk_image.proofs.cells.array_cells.Given as goal

-- the elements so far
abbrev pub invariant-loop-array : goal.invariant-loop-array
invariant-loop-array l = l.cells ≡ capped (sum (map (λ a. (array_list_of a).length) (take l.array-index l.arrays)))
