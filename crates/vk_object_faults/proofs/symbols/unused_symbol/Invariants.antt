use Rattle.std.proofs.Common.{◌≡◌, ℕ, ◌+◌, ◌<◌, ◌==◌, count_by, get_or, length, map, take}
use Rattle.std.specs.List.{sum_by}
use Rattle.vk_object_format.specs.Object.{symbol_length, symbols_at}
use Rattle.vk_object_faults.specs.Inner.Told.{unused}
use Rattle.vk_object_faults.proofs.Along.{Going}
use Rattle.vk_object_faults.proofs.symbols.unused_symbol.Given as goal

abbrev pub invariant-loop-at : goal.invariant-loop-at
invariant-loop-at l = Going symbol_length (unused l.uses) l.symbols 0 symbols_at l.at l.place
