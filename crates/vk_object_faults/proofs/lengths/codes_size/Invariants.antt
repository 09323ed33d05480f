use Rattle.std.proofs.Common.{◌≡◌, ℕ, ◌+◌, ◌<◌, ◌==◌, count_by, get_or, length, map, take}
use Rattle.std.specs.List.{sum_by}
use Rattle.vk_code_rows.specs.Sums.{capped}
use Rattle.vk_object_faults.specs.Inner.Told.{code_size}
use Rattle.vk_object_faults.proofs.lengths.codes_size.Given as goal

abbrev pub invariant-loop-row : goal.invariant-loop-row
invariant-loop-row l = l.bytes ≡ capped (sum_by code_size (take l.row-index l.rows))
