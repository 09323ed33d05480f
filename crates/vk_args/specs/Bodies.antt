-- The words of a simd loop's body.
use Rattle.std.specs.Prelude.{ℕ, zero, suc, ◌+◌, ◌*◌, ◌+ℤ◌, pos, List, Some, None, slice_get}
use Rattle.vk_types.specs.Numbers.{word_of, wrap_number}
use Rattle.vk_kinds.specs.declared.heads.CType.{CType}
use Rattle.vk_code.specs.Listing.{SimdSite}
use Rattle.vk_object.specs.Lane.{LaneState, number_at, ty_at}

-- the word of lane 0 in the register of a capture
abbrev pub captured : List ℕ → LaneState → ℕ → ℕ
captured captures lane p = elim (slice_get captures p) as (λ _. ℕ) [ None ↦ 0 | Some r ↦ lane.reg r ]

-- the words of call c, from iteration `base` on: in lane i the number low + base + c * lanes + i within its type, then the captured words
abbrev pub body_words : List CType → SimdSite → LaneState → ℕ → ℕ → ℕ → ℕ → ℕ → ℕ
body_words regs l lane lanes base c zero i = word_of (wrap_number (ty_at regs l.low) (number_at regs lane l.low +ℤ pos (base + c * lanes + i)))
body_words regs l lane lanes base c (suc p) i = captured l.captures lane p
