use Rattle.std.proofs.Common.{◌≡◌, ℕ, ◌+◌, ◌<◌, ◌==◌, count_by, get_or, length, map, take}
use Rattle.std.specs.List.{sum_by}
use Rattle.vk_code_rows.specs.Sums.{capped}
use Rattle.vk_object_format.specs.Object.{symbol_length}
use Rattle.vk_object_faults.proofs.lengths.symbols_length.Given as goal

abbrev pub invariant-loop-symbol : goal.invariant-loop-symbol
invariant-loop-symbol l = l.bytes ≡ capped (sum_by symbol_length (take l.symbol-index l.symbols))
