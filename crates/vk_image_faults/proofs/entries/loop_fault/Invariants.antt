use Rattle.std.proofs.Common.{◌≡◌, ℕ}
use Rattle.vk_code_format.specs.Values.{listing_of}
use Rattle.vk_code_rows.specs.Sums.{capped}
use Rattle.vk_image_format.specs.Values.{tables_of}
use Rattle.vk_image_faults.proofs.Linked.{Looping}
use Rattle.vk_image_faults.proofs.entries.loop_fault.Given as goal

abbrev pub invariant-loop-k : goal.invariant-loop-k
invariant-loop-k l = (p : ℕ) → l.fn.at ≡ capped p → Looping (tables_of l.image) (listing_of l.code) l.sites l.targets p l.k l.place
