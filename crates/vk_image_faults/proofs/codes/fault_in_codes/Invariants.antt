use Rattle.std.proofs.Common.{◌≡◌, ℕ}
use Rattle.vk_code_read.specs.Inner.Left.{place_of}
use Rattle.vk_code_rows.specs.Sums.{capped}
use Rattle.vk_image_format.specs.declared.rows.RawImage.{RawImage}
use Rattle.vk_object_faults.proofs.Along.{Going}
use Rattle.vk_image_faults.specs.Inner.Told.{Knows, are_asked, code_size, fault_in_code}
use Rattle.vk_image_faults.proofs.codes.fault_in_codes.Given as goal

abbrev pub invariant-loop-k : goal.invariant-loop-k
invariant-loop-k l = (i : RawImage) (p : ℕ) → Knows i l.env → are_asked i l.asked l.rows → l.fn.at ≡ capped p → Going (code_size (place_of l.place)) (fault_in_code i (place_of l.place)) l.rows 0 p l.k l.here
