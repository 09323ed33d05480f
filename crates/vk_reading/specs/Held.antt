-- Values as the reader holds them: words with their types.
use Rattle.std.specs.Prelude.{Result, Ok, Err}
use Rattle.vk_types.specs.declared.types.Stop.{Stop}
use Rattle.vk_types.specs.Numbers.{number_of, IsCanonical}
use Rattle.vk_meaning.specs.World.{World}
use Rattle.vk_meaning.specs.Data.{Datum, number, pointer, nothing, Value, got, halts}
use Rattle.vk_reading.specs.declared.held.Held.{Held}
use Rattle.vk_reading.specs.declared.held.Held.TheVariants.{Number, Pointer, Nothing}

-- what it stands for
abbrev pub datum_of : Held → Datum
datum_of (Number ty word) = number (number_of ty word.0)
datum_of (Pointer to array offset) = pointer array offset
datum_of Nothing = nothing

-- its word is one of its type
abbrev pub IsHeld : Held → Type 0
IsHeld (Number ty word) = IsCanonical ty word.0
IsHeld (Pointer to array offset) = Unit {0}
IsHeld Nothing = Unit {0}

-- a value or a stop, in this world
abbrev pub value_in : Result Held Stop → World → Value
value_in (Ok h) w = got (datum_of h) w
value_in (Err stop) w = halts stop w
