-- Calls of one function on several lanes at once: the words of their arguments, and what those have to meet.
use Rattle.std.specs.Prelude.{◌≡◌, ◌≢◌, ℕ, ◌+◌, ◌*◌, ◌/◌, ◌%◌, ◌^◌, ◌<◌, Bool, true, false, List, [], ◌∷◌, length, get_or, Some, ℤ, pos, ◌+ℤ◌, ◌-ℤ◌, ◌*ℤ◌, int_div}
use Rattle.std.specs.Int.{w32, cast_signed, cast_unsigned}
use Rattle.vk_types.specs.declared.types.Ty.{Ty}
use Rattle.vk_types.specs.declared.types.Ty.TheVariants.{I32}
use Rattle.vk_types.specs.Numbers.{width_of, wrap_number, number_of, word_of, IsCanonical}
use Rattle.vk_kinds.specs.declared.heads.CType.{CType}
use Rattle.vk_kinds.specs.declared.heads.CType.TheVariants.{Void, Int, Ptr}
use Rattle.vk_kinds.specs.declared.kinds.Kind.{Kind}
use Rattle.vk_kinds.specs.declared.kinds.Kind.TheVariants.{Vector, Uniform, Linear, Ref, Val, Uval}
use Rattle.vk_kinds.specs.declared.kinds.Step.{Step}
use Rattle.vk_kinds.specs.declared.kinds.Step.TheVariants.{One, By, Arg}
use Rattle.vk_meaning.specs.World.{Array, array_at}
use Rattle.vk_meaning.specs.Data.{Datum, number, pointer as a_pointer, nothing, array_of, named_element}
use Rattle.vk_meaning.specs.Types.{is_written_type, type_at}

-- ---- words

-- what a word stands for; a pointer's has the array in the high 32 bits, and the offset in the low ones, two's complement
abbrev pub datum_of : CType → ℕ → Datum
datum_of Void w = nothing
datum_of (Int t) w = number (number_of t w)
datum_of (Ptr to written) w = a_pointer (w / 2 ^ 32) (cast_signed w32 (w % 2 ^ 32))

-- the word that stands for it
abbrev pub word_of_datum : Datum → ℕ
word_of_datum (number z) = word_of z
word_of_datum (a_pointer array offset) = array * 2 ^ 32 + cast_unsigned w32 offset
word_of_datum nothing = 0

-- the words of a call, by the number of the parameter and that of the lane
abbrev pub Words : Type 0
Words = (parameter lane : ℕ) → ℕ

-- the arguments of a lane, from a parameter on
abbrev pub data_from : (parameter : ℕ) → List CType → Words → (lane : ℕ) → List Datum
data_from p [] words lane = []
data_from p (t ∷ ts) words lane = datum_of t (words p lane) ∷ data_from (p + 1) ts words lane

-- the arguments of a lane
abbrev pub arguments_of : List CType → Words → (lane : ℕ) → List Datum
arguments_of ts words lane = data_from 0 ts words lane

-- an argument of a lane
abbrev pub argument : List CType → Words → (parameter lane : ℕ) → Datum
argument ts words p lane = get_or (arguments_of ts words lane) p nothing

-- ---- typed arguments

-- a word of the type: a pattern of 64 bits, that of a number in range where the type is an integer
abbrev pub IsWord : CType → ℕ → Type 0
IsWord Void w = w < 2 ^ 64
IsWord (Int t) w = IsCanonical t w
IsWord (Ptr to written) w = w < 2 ^ 64

-- An array of the program has elements of this type, and is not `const` where they may be written.
pub record IsPointee (arrays : List Array) (to : Ty) (written : Bool) (array : ℕ) : Type 0 where
  pub there : array < length arrays
  pub elements : (array_at arrays array).ty ≡ to
  pub writable : written ≡ true → (array_at arrays array).fixed ≡ false

-- a pointer of the type points into such an array
abbrev pub IsPointed : List Array → CType → Datum → Type 0
IsPointed arrays Void d = Unit {0}
IsPointed arrays (Int t) d = Unit {0}
IsPointed arrays (Ptr to written) d = IsPointee arrays to written (array_of d)

-- Every word is one of its parameter's type, and each pointer of an active lane points into an array that its type allows. The
-- lanes are those below a number, and active where the mask is on.
pub record AreTyped (ts : List CType) (arrays : List Array) (lanes : ℕ) (words : Words) (mask : ℕ → Bool) : Type 0 where
  pub canonical : (p j : ℕ) → p < length ts → j < lanes → IsWord (type_at ts p) (words p j)
  pub pointed : (p j : ℕ) → p < length ts → j < lanes → mask j ≡ true → IsPointed arrays (type_at ts p) (argument ts words p j)

-- ---- arguments that fit their kinds (OpenMP 5.2, 7.7; the vector function ABIs)

-- the size of an element in bytes
abbrev pub size_of : Ty → ℕ
size_of t = width_of t / 8

-- How far a linear argument goes on from one lane to the next: a number, or elements. A constant step of a pointer is in bytes; an
-- argument step is the number that the step argument has in this lane.
abbrev pub step_of : CType → Step → (number_at : ℕ → ℤ) → ℤ
step_of (Ptr to written) One number_at = int_div (pos 1) (pos (size_of to))
step_of (Ptr to written) (By c) number_at = int_div c (pos (size_of to))
step_of (Ptr to written) (Arg p) number_at = number_at p
step_of t One number_at = pos 1
step_of t (By c) number_at = c
step_of t (Arg p) number_at = number_at p

-- the number of an argument, 0 where it is none
abbrev pub number_as : CType → ℕ → ℤ
number_as Void w = pos 0
number_as (Int t) w = number_of t w
number_as (Ptr to written) w = pos 0

-- A word of the type is another one, moved by so much: modulo the type's range, or for a pointer in one array, modulo 2 ^ 32.
abbrev pub IsMoved : CType → ℤ → (from to : ℕ) → Type 0
IsMoved Void n from to = Unit {0}
IsMoved (Int t) n from to = number_of t to ≡ wrap_number t (number_of t from +ℤ n)
IsMoved (Ptr t written) n from to =
    (to / 2 ^ 32 ≡ from / 2 ^ 32) × (cast_signed w32 (to % 2 ^ 32) ≡ wrap_number I32 (cast_signed w32 (from % 2 ^ 32) +ℤ n))

-- lane j fits lane k, which is the first active one: one value for a uniform argument, a multiple of the step for a linear one
abbrev pub FitsFrom : Kind → CType → List CType → Words → (parameter k j : ℕ) → Type 0
FitsFrom Vector t ts words p k j = Unit {0}
FitsFrom Uniform t ts words p k j = words p j ≡ words p k
FitsFrom (Linear step) t ts words p k j =
    IsMoved t ((pos j -ℤ pos k) *ℤ step_of t step (λ q. number_as (type_at ts q) (words q k))) (words p k) (words p j)
FitsFrom (Ref step) t ts words p k j = Unit {0}
FitsFrom (Val step) t ts words p k j = Unit {0}
FitsFrom (Uval step) t ts words p k j = Unit {0}

-- the first active lane
pub record IsFirstActive (lanes : ℕ) (mask : ℕ → Bool) (k : ℕ) : Type 0 where
  pub below : k < lanes
  pub on : mask k ≡ true
  pub none_before : (i : ℕ) → i < k → mask i ≡ false

-- the arguments of all active lanes fit their parameters' kinds
abbrev pub AreFitting : List CType → List Kind → (lanes : ℕ) → Words → (mask : ℕ → Bool) → Type 0
AreFitting ts kinds lanes words mask =
    (k : ℕ) → IsFirstActive lanes mask k → (p j : ℕ) → p < length ts → j < lanes → mask j ≡ true →
    FitsFrom (get_or kinds p Vector) (type_at ts p) ts words p k j

-- ---- lanes that are apart

-- Of these arguments, for parameters of these types, a pointer to elements that may be written points to this cell.
pub record NamesCell (ts : List CType) (arrays : List Array) (ds : List Datum) (array index : ℕ) : Type 0 where
  pub parameter : ℕ
  pub below : parameter < length ts
  pub written : is_written_type (type_at ts parameter) ≡ true
  pub same_array : array_of (get_or ds parameter nothing) ≡ array
  pub element : named_element arrays (get_or ds parameter nothing) ≡ Some index

-- Of these arguments, a pointer to elements that may only be read points into this array, or past its ends.
pub record ReadsArray (ts : List CType) (ds : List Datum) (array : ℕ) : Type 0 where
  pub parameter : ℕ
  pub read : is_written_type (type_at ts parameter) ≡ false
  pub offset : ℤ
  pub points : get_or ds parameter nothing ≡ a_pointer array offset

-- Of any two different active lanes, no cell is named by both, and none that the one names lies in an array that the other reads.
pub record AreApart (ts : List CType) (arrays : List Array) (lanes : ℕ) (words : Words) (mask : ℕ → Bool) : Type 0 where
  pub cells : (i j : ℕ) → i < lanes → j < lanes → mask i ≡ true → mask j ≡ true → i ≢ j → (a c : ℕ) →
      NamesCell ts arrays (arguments_of ts words i) a c → NamesCell ts arrays (arguments_of ts words j) a c → ⊥
  pub arrays_read : (i j : ℕ) → i < lanes → j < lanes → mask i ≡ true → mask j ≡ true → i ≢ j → (a c : ℕ) →
      NamesCell ts arrays (arguments_of ts words i) a c → ReadsArray ts (arguments_of ts words j) a → ⊥
