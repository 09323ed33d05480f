-- What evaluations give: numbers and pointers, which may be moved, loaded from and stored to.
use Rattle.std.specs.Prelude.{ℕ, nat_lt, Bool, cond, ◌&&◌, List, Option, Some, None, ℤ, pos, negsuc, ◌+ℤ◌, int_le}
use Rattle.vk_types.specs.declared.types.Ty.{Ty}
use Rattle.vk_types.specs.declared.types.Stop.{Stop}
use Rattle.vk_types.specs.declared.types.Stop.TheVariants.{Bounds}
use Rattle.vk_types.specs.Numbers.{wrap_number, number_of, word_of}
use Rattle.vk_kinds.specs.declared.heads.CType.{CType}
use Rattle.vk_kinds.specs.declared.heads.CType.TheVariants.{Void, Int, Ptr}
use Rattle.vk_meaning.specs.World.{Array, array_at, with_cell, World, in_memory}

-- The value of an expression (C17 6.5): a number; a pointer, as an array's number and an offset in elements, which may be outside
-- the array; or nothing, where the type is void (C17 6.3.2.2).
pub data Datum : Type 0 where
  number : ℤ → Datum
  pointer : (array : ℕ) → (offset : ℤ) → Datum
  nothing : Datum

-- the number, 0 where there is none
abbrev pub number_in : Datum → ℤ
number_in (number z) = z
number_in (pointer array offset) = pos 0
number_in nothing = pos 0

-- the pointer, nothing where there is none
abbrev pub pointer_in : Datum → Datum
pointer_in (number z) = nothing
pointer_in (pointer array offset) = pointer array offset
pointer_in nothing = nothing

-- Conversion as if by assignment (C17 6.5.16.1): a number becomes one of the type (C17 6.3.1.3, with signed types as unsigned
-- ones), a pointer stays.
abbrev pub as_type : CType → Datum → Datum
as_type Void d = nothing
as_type (Int t) d = number (wrap_number t (number_in d))
as_type (Ptr to written) d = pointer_in d

-- what an evaluation ends with: a value, or a stop, and the world as it left it
pub data Value : Type 0 where
  got : Datum → World → Value
  halts : Stop → World → Value

-- an evaluation (C17 5.1.2.3): a value computation with its side effects
abbrev pub Action : Type 0
Action = World → Value

-- this value, without side effects
abbrev pub given : Datum → Action
given d w = got d w

-- goes on with what was got; a stop stays
abbrev pub with_value : Value → (Datum → Action) → Value
with_value (got d w) next = next d w
with_value (halts stop w) next = halts stop w

-- one evaluation, sequenced before the next one, which has its value (C17 5.1.2.3)
abbrev pub and_then : Action → (Datum → Action) → Action
and_then first next w = with_value (first w) next

-- the same, with its number
abbrev pub then_number : Action → (ℤ → Action) → Action
then_number first next = and_then first (λ d. next (number_in d))

-- ---- pointer arithmetic (C17 6.5.6)

-- an offset has 32 bits
abbrev pub fits_offset : ℤ → Bool
fits_offset z = int_le (negsuc 2147483647) z && int_le z (pos 2147483647)

-- a pointer, where its offset fits
abbrev pub pointer_at : Bool → (array : ℕ) → (offset : ℤ) → Action
pointer_at fits array offset w = cond fits (got (pointer array offset) w) (halts Bounds w)

-- the pointer, moved by so many elements; it stops where the offset leaves 32 bits
abbrev pub moved : Datum → ℤ → Action
moved (number z) n w = halts Bounds w
moved (pointer array offset) n w = pointer_at (fits_offset (offset +ℤ n)) array (offset +ℤ n) w
moved nothing n w = halts Bounds w

-- ---- the element that a pointer points to (C17 6.5.3.2)

-- the number of the element at this offset, where there is one among so many
abbrev pub element_at : (length : ℕ) → (offset : ℤ) → Option ℕ
element_at length (pos n) = cond (nat_lt n length) (Some n) None
element_at length (negsuc n) = None

-- the number of the element that a pointer points to
abbrev pub named_element : List Array → Datum → Option ℕ
named_element arrays (number z) = None
named_element arrays (pointer array offset) = element_at (array_at arrays array).length offset
named_element arrays nothing = None

-- the number of the array that a pointer points into
abbrev pub array_of : Datum → ℕ
array_of (number z) = 0
array_of (pointer array offset) = array
array_of nothing = 0

-- goes on with the element; outside the array it stops
abbrev pub at_element : Option ℕ → (ℕ → Action) → Action
at_element None next w = halts Bounds w
at_element (Some index) next w = next index w

-- lvalue conversion (C17 6.3.2.1): the number that is stored in the element, as one of the type t
abbrev pub loaded : List Array → Ty → Datum → Action
loaded arrays t p = at_element (named_element arrays p)
    (λ index w. got (number (wrap_number t (number_of (array_at arrays (array_of p)).ty (w.memory (array_of p) index)))) w)

-- the number is stored in the element, as one of the array's type (C17 6.5.16)
abbrev pub stored : List Array → Datum → ℤ → Action
stored arrays p z = at_element (named_element arrays p)
    (λ index w. got nothing (in_memory w (with_cell w.memory (array_of p) index (word_of (wrap_number (array_at arrays (array_of p)).ty z)))))
