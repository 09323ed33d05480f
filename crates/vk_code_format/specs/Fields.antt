-- The small fields of objects and images.
use Rattle.std.specs.Prelude.{ℕ, ◌+◌, ◌-◌, ◌%◌, ◌^◌, ◌==◌, nat_lt, Bool, true, false, cond, if◌then◌else◌, List, [], ◌∷◌, Option, Some, None, slice_get}
use Rattle.std.specs.Option.{option_map}
use Rattle.vk_types.specs.declared.types.Ty.{Ty}
use Rattle.vk_types.specs.declared.types.Ty.TheVariants.{I8, I16, I32, I64, U8, U16, U32, U64}
use Rattle.vk_types.specs.declared.types.Word.{Word}
use Rattle.vk_types.specs.Formats.{type_number}
use Rattle.vk_kinds.specs.declared.heads.CType.{CType}
use Rattle.vk_kinds.specs.declared.heads.CType.TheVariants.{Void, Int, Ptr}
use Rattle.vk_kinds.specs.declared.kinds.Target.{Target}
use Rattle.vk_kinds.specs.declared.kinds.Target.TheVariants.{X86, Arm}
use Rattle.vk_kinds.specs.Sizes.{bytes_of}
use Rattle.vk_kinds.specs.Types.{ctype_number}
use Rattle.vk_code.specs.Instruction.{types}
use Rattle.vk_code.specs.Valid.{is_good_simdlen}
use Rattle.vk_format.specs.declared.rules.ObjectRule.{ObjectRule}
use Rattle.vk_format.specs.declared.rules.ObjectRule.TheVariants.{O3, O7, O8}
use Rattle.vk_format.specs.declared.rules.ObjectFault.{ObjectFault}
use Rattle.vk_format.specs.Codec.{Codec, number, meaning, judged, seen}

-- one byte, which is a value's place in the list
abbrev pub coded : {R T : Type 0} → ObjectRule → List T → (T → ℕ) → Codec R T
coded rule values place = meaning rule (λ n. slice_get values n) place (number 1)

abbrev pub bit : Bool → ℕ
bit b = cond b 1 0

-- 0 or 1
abbrev pub flag : {R : Type 0} → Codec R Bool
flag = coded O7 (false ∷ true ∷ []) bit

-- a number below this one, else it names nothing
abbrev pub below : {R : Type 0} → ℕ → Codec R ℕ
below limit = judged O8 (λ n. nat_lt n limit) (number 4)

-- a number, one of which stands for none
abbrev pub none_at : ℕ → ℕ → Option ℕ
none_at none n = if n == none then None else Some n

abbrev pub or_none : ℕ → Option ℕ → ℕ
or_none none None = none
or_none none (Some n) = n

abbrev pub optional : {R : Type 0} → ℕ → ℕ → Codec R (Option ℕ)
optional width none = seen (none_at none) (or_none none) (number width)

-- a register, or 65535 for none
abbrev pub register_or_none : {R : Type 0} → Codec R (Option ℕ)
register_or_none = optional 2 65535

-- a power of two from 2 to 256, or 0 for none
abbrev pub simdlen : {R : Type 0} → Codec R (Option ℕ)
simdlen = judged O7 is_good_simdlen (optional 2 0)

abbrev pub target_number : Target → ℕ
target_number X86 = 0
target_number Arm = 1

abbrev pub target : {R : Type 0} → Codec R Target
target = coded O3 (X86 ∷ Arm ∷ []) target_number

-- ---- types

abbrev pub int_type : {R : Type 0} → Codec R Ty
int_type = coded O7 types type_number

-- 0 to 7 are integers, 8 to 15 pointers that may be written, 16 to 23 other pointers
abbrev pub value_type_of : ℕ → Option CType
value_type_of n =
    if nat_lt n 8 then option_map (λ t. Int t) (slice_get types n)
    else (if nat_lt n 16 then option_map (λ t. Ptr t true) (slice_get types (n - 8))
    else option_map (λ t. Ptr t false) (slice_get types (n - 16)))

-- the type of a register or a parameter
abbrev pub value_type : {R : Type 0} → Codec R CType
value_type = meaning O7 value_type_of ctype_number (number 1)

-- an integer, or 255 for none
abbrev pub result_type_of : ℕ → Option CType
result_type_of n = if n == 255 then Some Void else option_map (λ t. Int t) (slice_get types n)

abbrev pub result_type : {R : Type 0} → Codec R CType
result_type = meaning O7 result_type_of ctype_number (number 1)

-- ---- elements

-- a number of so many bits in two's complement, in 64 bits
abbrev pub sign_extended : ℕ → ℕ → ℕ
sign_extended bits n = if nat_lt n (2 ^ (bits - 1)) then n else n + (2 ^ 64 - 2 ^ bits)

-- the number in the type's bytes, sign or zero extended to 64 bits
abbrev pub extended : Ty → ℕ → ℕ
extended I8 n = sign_extended 8 n
extended I16 n = sign_extended 16 n
extended I32 n = sign_extended 32 n
extended I64 n = n
extended U8 n = n
extended U16 n = n
extended U32 n = n
extended U64 n = n

abbrev pub word_of : Ty → ℕ → Word
word_of t n = record { 0 = extended t n }

-- an element of an object or array: a word of its type
abbrev pub element : {R : Type 0} → Ty → Codec R Word
element t = seen (word_of t) (λ w. w.0 % 256 ^ bytes_of t) (number (bytes_of t))

-- ---- order

abbrev pub last_of : {A : Type 0} → List A → Option A
last_of [] = None
last_of (x ∷ []) = Some x
last_of (x ∷ y ∷ ys) = last_of (y ∷ ys)

-- it comes behind the last one
abbrev pub comes_after : {A : Type 0} → (A → A → Bool) → Option A → A → Bool
comes_after before None x = true
comes_after before (Some y) x = before y x

-- ---- faults of members

abbrev pub or_else : Option ObjectFault → Option ObjectFault → Option ObjectFault
or_else None o = o
or_else (Some f) o = Some f

abbrev pub unless : Bool → ObjectFault → Option ObjectFault
unless true f = None
unless false f = Some f

-- The first fault of members that stand one after the other from a place on. A member is told by its number, and by its place.
abbrev pub first_along : {A : Type 0} → (A → ℕ) → (ℕ → ℕ → A → Option ObjectFault) → ℕ → ℕ → List A → Option ObjectFault
first_along size faults n at [] = None
first_along size faults n at (x ∷ xs) = or_else (faults n at x) (first_along size faults (n + 1) (at + size x) xs)
