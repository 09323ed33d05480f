-- The memory of a run: the pattern in each cell of each array, and what was printed and called, in order.
use Rattle.std.specs.Prelude.{ℕ, ◌+◌, ◌-◌, ◌*◌, ◌/◌, ◌%◌, ◌^◌, ◌==◌, nat_lt, ◌&&◌, cond, ℤ, pos, ◌+ℤ◌, int_le, neg_ℤ, unsigned_abs, List, [], ◌∷◌, ◌++◌, Option, Some, None, slice_get}
use Rattle.std.specs.Int.{w32, cast_signed, int_rem_euclid}
use Rattle.vk_types.specs.declared.types.Ty.{Ty}

-- a number was printed, or an entry was called
pub data Event : Type 0 where
  Prints : (n : ℤ) → Event
  Calls : (entry : ℕ) → Event

pub record Memory : Type 0 where
  pub cells : ℕ → ℕ → ℕ
  pub log : List Event

abbrev pub logged : Event → Memory → Memory
logged e m = record { cells = m.cells; log = m.log ++ e ∷ [] }

abbrev pub with_cell : Memory → ℕ → ℕ → ℕ → Memory
with_cell m array index w = record { cells = λ a i. cond ((a == array) && (i == index)) w (m.cells a i); log = m.log }

-- the numbers that were printed
abbrev pub printed : List Event → List ℤ
printed [] = []
printed (Prints n ∷ es) = n ∷ printed es
printed (Calls entry ∷ es) = printed es

-- how often an entry was called
abbrev pub calls_of : ℕ → List Event → ℕ
calls_of e [] = 0
calls_of e (Prints n ∷ es) = calls_of e es
calls_of e (Calls entry ∷ es) = cond (entry == e) 1 0 + calls_of e es

-- a pointer word: the array's number in its high 32 bits, the offset in its low 32, two's complement
abbrev pub array_of : ℕ → ℕ
array_of p = p / 2 ^ 32

abbrev pub offset_of : ℕ → ℤ
offset_of p = cast_signed w32 (p % 2 ^ 32)

-- the same array at an offset modulo 2^32
abbrev pub at_offset : ℕ → ℤ → ℕ
at_offset p z = array_of p * 2 ^ 32 + unsigned_abs (int_rem_euclid z (pos (2 ^ 32)))

-- a pointer moved by z elements, where the offset stays in 32 bits
abbrev pub moved : ℕ → ℤ → Option ℕ
moved p z =
    let o : ℤ = offset_of p +ℤ z in
    cond (int_le (neg_ℤ (pos (2 ^ 31))) o && int_le o (pos (2 ^ 31 - 1))) (Some (at_offset p o)) None

-- the type of an array's elements, and how many there are
pub record Extent : Type 0 where
  pub ty : Ty
  pub length : ℕ

-- an element of an array
pub record Cell : Type 0 where
  pub array : ℕ
  pub index : ℕ
  pub ty : Ty

-- the offset is not negative, and below the array's length
abbrev pub cell_in : ℕ → Option Extent → Option Cell
cell_in p None = None
cell_in p (Some x) = let o : ℕ = p % 2 ^ 32 in cond (nat_lt o (2 ^ 31) && nat_lt o x.length) (Some (record { array = array_of p; index = o; ty = x.ty })) None

-- the element that a pointer names, where there is one
abbrev pub cell_of : List Extent → ℕ → Option Cell
cell_of arrays p = cell_in p (slice_get arrays (array_of p))
