use Rattle.std.proofs.Common.{◌≡◌, map, sum, take}
use Rattle.vk_image_format.specs.Values.{array_of}
use Rattle.vk_image.specs.Inner.Rounds.{capped}
use Rattle.vk_image_faults.proofs.cells.array_cells.Given as goal

-- the elements so far
abbrev pub invariant-loop-array : goal.invariant-loop-array
invariant-loop-array l = l.cells ≡ capped (sum (map (λ a. (array_of a).length) (take l.array-index l.arrays)))
