-- The numbers by which the formats of code and objects name types.
use Rattle.std.specs.Prelude.{◌≡◌, ℕ, ◌<◌, Result, MatchResult}
use Rattle.vk_types.specs.declared.types.Ty.{Ty}
use Rattle.vk_types.specs.declared.types.Ty.TheVariants.{I8, I16, I32, I64, U8, U16, U32, U64}
use Rattle.vk_types.specs.declared.types.UnknownType.{UnknownType}

abbrev pub type_number : Ty → ℕ
type_number I8 = 0
type_number I16 = 1
type_number I32 = 2
type_number I64 = 3
type_number U8 = 4
type_number U16 = 5
type_number U32 = 6
type_number U64 = 7

-- the result is the type with this number, or the number again, which is above all of them
abbrev pub IsTypeNumbered : ℕ → Result Ty UnknownType → Type 0
IsTypeNumbered n r = MatchResult r (λ t. type_number t ≡ n) (λ e. (e.0 ≡ n) × (7 < n))
