use Rattle.std.proofs.Common.{◌≡◌, take}
use Rattle.std.specs.List.{sum_by}
use Rattle.vk_code_rows.specs.Sums.{capped}
use Rattle.vk_image_format.specs.Image.{array_length}
use Rattle.vk_image_faults.proofs.lengths.arrays_length.Given as goal

abbrev pub invariant-loop-array : goal.invariant-loop-array
invariant-loop-array l = l.bytes ≡ capped (sum_by array_length (take l.array-index l.arrays))
