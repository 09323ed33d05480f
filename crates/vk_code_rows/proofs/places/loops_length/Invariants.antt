use Rattle.std.proofs.Common.{◌≡◌, take}
use Rattle.vk_code_read.specs.Inner.Left.{place_of}
use Rattle.vk_code_rows.specs.Sums.{capped, loops_size}
use Rattle.vk_code_rows.proofs.places.loops_length.Given as goal

abbrev pub invariant-loop-row : goal.invariant-loop-row
invariant-loop-row l = l.bytes ≡ capped (loops_size (place_of l.place) (take l.row-index l.rows))
