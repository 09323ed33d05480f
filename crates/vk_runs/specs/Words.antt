-- Registers with words of their types.
use Rattle.std.specs.Prelude.{◌≡◌, ℕ, ◌<◌, true, List, Some, slice_get}
use Rattle.vk_types.specs.declared.types.Ty.{Ty}
use Rattle.vk_types.specs.Formats.{type_number}
use Rattle.vk_kinds.specs.declared.heads.CType.{CType}
use Rattle.vk_code.specs.Listing.{Listing, reg_type}
use Rattle.vk_code.specs.Valid.{is_canonical}
use Rattle.vk_object.specs.Lane.{LaneState}
use Rattle.vk_object.specs.Machine.{World}
use Rattle.vk_object.specs.Memory.{Extent, Memory}

-- the pattern is canonical for the type with this number, where that is an integer type; a pointer may have any pattern
abbrev pub IsWordOf : ℕ → ℕ → Type 0
IsWordOf n w = (t : Ty) → n ≡ type_number t → is_canonical t w ≡ true

-- each register has a word of its type
abbrev pub HasWords : List CType → LaneState → Type 0
HasWords regs l = (r : ℕ) → IsWordOf (reg_type regs r) (l.reg r)

-- in each lane
abbrev pub HaveWords : List CType → World → Type 0
HaveWords regs w = (j : ℕ) → HasWords regs (w.lane j)

-- words of the parameters' types, in so many lanes
abbrev pub AreArguments : ℕ → Listing → (ℕ → ℕ → ℕ) → Type 0
AreArguments lanes c args = (p j : ℕ) → p < c.routine.params → j < lanes → IsWordOf (reg_type c.routine.regs p) (args p j)

-- each cell has a word of its array's type
abbrev pub HaveCells : List Extent → Memory → Type 0
HaveCells arrays m = (a i : ℕ) (x : Extent) → slice_get arrays a ≡ Some x → is_canonical x.ty (m.cells a i) ≡ true
