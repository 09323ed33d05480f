-- What the functions tell each other that compare lanes.
use Rattle.std.specs.Prelude.{◌≡◌, ℕ, ◌<◌, Bool, true, List, length, Option, Some, None}
use Rattle.vk_types.specs.declared.types.Word.{Word}
use Rattle.vk_kinds.specs.declared.heads.CType.{CType}
use Rattle.vk_meaning.specs.Types.{type_at}
use Rattle.vk_meaning.specs.Lanes.{IsWord}
use Rattle.vk_arguments.specs.Arguments.{passed}

-- each word is one of its parameter's type
abbrev pub AreWords : List CType → (lanes : ℕ) → List Word → Type 0
AreWords types n words = (p lane : ℕ) → p < length types → lane < n → IsWord (type_at types p) (passed n words p lane)

-- the first active lane that does not fit, or all of them do
abbrev pub IsFirstMisfit : (lanes : ℕ) → (mask : ℕ → Bool) → (Fits : ℕ → Type 0) → Option ℕ → Type 0
IsFirstMisfit n mask Fits None = (lane : ℕ) → lane < n → mask lane ≡ true → Fits lane
IsFirstMisfit n mask Fits (Some lane) =
    (lane < n) × (mask lane ≡ true) × (Fits lane → ⊥) × ((other : ℕ) → other < lane → mask other ≡ true → Fits other)
