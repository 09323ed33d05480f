-- What has been written, as code.
use Rattle.std.specs.Prelude.{ℕ, true, [], Some}
use Rattle.vk_code.specs.Listing.{Listing}
use Rattle.vk_construct.specs.Adds.{Written}

-- lane code with a result and without simd loops
abbrev pub finished : Written → (register : ℕ) → Listing
finished w register = record {
  routine = record { lane_code = true; params = w.params; result = Some register; regs = w.regs; masks = w.masks; slots = w.slots; loops = 0; instrs = w.instrs };
  loops = [];
}
