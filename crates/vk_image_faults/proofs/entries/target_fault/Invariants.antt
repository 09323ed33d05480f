use Rattle.std.proofs.Common.{◌≡◌, ℕ}
use Rattle.vk_code_format.specs.Values.{listing_of}
use Rattle.vk_code_rows.specs.Sums.{capped}
use Rattle.vk_image_format.specs.Values.{tables_of}
use Rattle.vk_image_faults.proofs.Linked.{Calling}
use Rattle.vk_image_faults.proofs.entries.target_fault.Given as goal

abbrev pub invariant-loop-k : goal.invariant-loop-k
invariant-loop-k l = (p : ℕ) → l.fn.at ≡ capped p → Calling (tables_of l.image) l.entry (listing_of l.code) l.slots l.targets p l.k l.place
