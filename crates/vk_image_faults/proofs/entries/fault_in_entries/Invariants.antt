use Rattle.std.proofs.Common.{◌≡◌, ℕ}
use Rattle.vk_code_rows.specs.Sums.{capped}
use Rattle.vk_object_faults.proofs.Along.{Going}
use Rattle.vk_image_faults.specs.Inner.Told.{entry_size, fault_in_entry}
use Rattle.vk_image_faults.proofs.entries.fault_in_entries.Given as goal

abbrev pub invariant-loop-k : goal.invariant-loop-k
invariant-loop-k l = (p : ℕ) → l.fn.at ≡ capped p → Going entry_size (fault_in_entry l.check l.image) l.entries 0 p l.k l.place
