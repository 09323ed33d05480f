-- What a body needs of the program that it stands in, as the reader holds it.
use Rattle.std.specs.Prelude.{◌≡◌, ℕ, ◌-◌, min, List, map, length, Option, Some, None, slice_get, unwrap_or}
use Rattle.vk_ast.specs.declared.names.NameId.{NameId}
use Rattle.vk_meaning.specs.World.{Array}
use Rattle.vk_meaning.specs.Data.{Datum, nothing, Action}
use Rattle.vk_meaning.specs.Expressions.{Context, Variables}
use Rattle.vk_reading.specs.declared.held.Held.{Held}
use Rattle.vk_reading.specs.Held.{datum_of, IsHeld}
use Rattle.vk_reading_steps.specs.declared.setting.Setting.{Setting}

-- what a table has for a name: its last row stands for names past it
abbrev pub row_in : {T : Type 0} → List T → NameId → Option T
row_in rows id = slice_get rows (min id.0 (length rows - 1))

-- the number of the array that a name is
abbrev pub number_in_table : List ℕ → NameId → ℕ
number_in_table numbers id = unwrap_or (row_in numbers id) 0

abbrev pub context_in : List Array → (NameId → List Datum → Action) → Setting → Context
context_in arrays call s = record {
  arrays = arrays;
  array = number_in_table s.numbers.now;
  call = call;
  turns = s.turns;
  text = s.text.now;
  result = s.result;
}

-- what the variables have
abbrev pub datum_in : Option Held → Datum
datum_in None = nothing
datum_in (Some h) = datum_of h

abbrev pub variables_in : List Held → Variables
variables_in values k = datum_in (slice_get values k)

-- each has a word of its type
abbrev pub AreHeld : List Held → Type 0
AreHeld values = (k : ℕ) (h : Held) → slice_get values k ≡ Some h → IsHeld h

-- the data of some values
abbrev pub data_of : List Held → List Datum
data_of hs = map datum_of hs
