use Rattle.std.proofs.Common.{◌≡◌, take}
use Rattle.std.specs.List.{sum_by}
use Rattle.vk_code_read.specs.Inner.Left.{place_of}
use Rattle.vk_code_rows.specs.Sums.{capped}
use Rattle.vk_image_faults.specs.Inner.Told.{code_size}
use Rattle.vk_image_faults.proofs.lengths.codes_length.Given as goal

abbrev pub invariant-loop-row : goal.invariant-loop-row
invariant-loop-row l = l.bytes ≡ capped (sum_by (code_size (place_of l.place)) (take l.row-index l.rows))
