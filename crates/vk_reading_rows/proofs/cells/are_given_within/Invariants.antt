use Rattle.std.proofs.Common.{map, take}
use Rattle.vk_reading_rows.specs.Objects.{AreGivenWithin, array_seen}
use Rattle.vk_reading_rows.proofs.cells.are_given_within.Given as goal

abbrev pub invariant-loop-placed : goal.invariant-loop-placed
invariant-loop-placed l = AreGivenWithin (map array_seen (take l.placed-index l.objects))
