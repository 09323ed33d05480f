-- Which type an operand is converted to: the integer promotions (C17 6.3.1.1) and the usual arithmetic conversions (C17 6.3.1.8).
use Rattle.std.specs.Prelude.{Bool, true, false, cond, ◌&&◌, ℕ, ◌-◌, ◌^◌, nat_le, ℤ, pos, neg_ℤ, int_le}
use Rattle.vk_types.specs.declared.types.Ty.{Ty}
use Rattle.vk_types.specs.declared.types.Ty.TheVariants.{I8, I16, I32, I64, U8, U16, U32, U64}
use Rattle.vk_types.specs.Numbers.{width_of}

abbrev pub is_signed : Ty → Bool
is_signed I8 = true
is_signed I16 = true
is_signed I32 = true
is_signed I64 = true
is_signed U8 = false
is_signed U16 = false
is_signed U32 = false
is_signed U64 = false

-- the conversion rank: long above int above short above signed char, and each unsigned type with its signed one
abbrev pub rank_of : Ty → ℕ
rank_of I8 = 1
rank_of I16 = 2
rank_of I32 = 3
rank_of I64 = 4
rank_of U8 = 1
rank_of U16 = 2
rank_of U32 = 3
rank_of U64 = 4

-- the unsigned type of the same rank
abbrev pub unsigned_of : Ty → Ty
unsigned_of I8 = U8
unsigned_of I16 = U16
unsigned_of I32 = U32
unsigned_of I64 = U64
unsigned_of U8 = U8
unsigned_of U16 = U16
unsigned_of U32 = U32
unsigned_of U64 = U64

-- the least and the greatest number of a type
abbrev pub least_of : Ty → ℤ
least_of t = cond (is_signed t) (neg_ℤ (pos (2 ^ (width_of t - 1)))) (pos 0)

abbrev pub greatest_of : Ty → ℤ
greatest_of t = cond (is_signed t) (pos (2 ^ (width_of t - 1) - 1)) (pos (2 ^ width_of t - 1))

-- each number of the type s is one of the type t
abbrev pub holds_all : Ty → Ty → Bool
holds_all t s = int_le (least_of t) (least_of s) && int_le (greatest_of s) (greatest_of t)

-- up to the rank of int: an int where that holds all numbers of the type, else an unsigned int; types above are unchanged
abbrev pub promoted : Ty → Ty
promoted t = cond (nat_le (rank_of t) (rank_of I32)) (cond (holds_all I32 t) I32 U32) t

-- of two types that are both signed or both unsigned: the one of greater rank
abbrev pub greater : Ty → Ty → Ty
greater a b = cond (nat_le (rank_of a) (rank_of b)) b a

-- of a signed and an unsigned type: the unsigned one where its rank is not less; else the signed one where that holds all numbers
-- of the unsigned one; else the unsigned type of the signed one's rank
abbrev pub mixed : Ty → Ty → Ty
mixed signed unsigned = cond (nat_le (rank_of signed) (rank_of unsigned)) unsigned (cond (holds_all signed unsigned) signed (unsigned_of signed))

abbrev pub by_signs : Bool → Bool → Ty → Ty → Ty
by_signs true true a b = greater a b
by_signs true false a b = mixed a b
by_signs false true a b = mixed b a
by_signs false false a b = greater a b

-- the common type of two operands: both are promoted first
abbrev pub common_type : Ty → Ty → Ty
common_type a b = by_signs (is_signed (promoted a)) (is_signed (promoted b)) (promoted a) (promoted b)
