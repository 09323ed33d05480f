-- The types of parameters and results, and the numbers by which the formats of code and objects name them.
use Rattle.std.specs.Prelude.{◌≡◌, ◌≢◌, ℕ, ◌+◌, ◌<◌, true, false, Option, Some, None, Result, MatchResult}
use Rattle.vk_types.specs.declared.types.Ty.{Ty}
use Rattle.vk_types.specs.declared.types.UnknownType.{UnknownType}
use Rattle.vk_types.specs.Formats.{type_number}
use Rattle.vk_kinds.specs.declared.heads.CType.{CType}
use Rattle.vk_kinds.specs.declared.heads.CType.TheVariants.{Void, Int, Ptr}

-- the type of an integer
abbrev pub integer_of : CType → Option Ty
integer_of Void = None
integer_of (Int t) = Some t
integer_of (Ptr to written) = None

-- pointers that are written are above the integers, read pointers above these; 255 stands for no value
abbrev pub ctype_number : CType → ℕ
ctype_number Void = 255
ctype_number (Int t) = type_number t
ctype_number (Ptr to true) = 8 + type_number to
ctype_number (Ptr to false) = 16 + type_number to

-- the result is the type with this number, or the number again, which no type has
abbrev pub IsCTypeNumbered : ℕ → Result CType UnknownType → Type 0
IsCTypeNumbered n r = MatchResult r (λ c. ctype_number c ≡ n) (λ e. (e.0 ≡ n) × ((c : CType) → ctype_number c ≢ n))
