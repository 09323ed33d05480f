-- What a call on lanes prints: one line for each lane.
use Rattle.std.specs.Prelude.{⊤, ℕ, ◌<◌, Bool, true, false, List, ◌++◌, codes, get_or, map, Option, Some, None}
use Rattle.std.specs.Fmt.{decimal, signed_decimal}
use Rattle.std.specs.List.{range_with_len}
use Rattle.vk_types.specs.declared.types.Ty.{Ty}
use Rattle.vk_types.specs.declared.types.Stop.{Stop}
use Rattle.vk_types.specs.Numbers.{IsCanonical, number_of}
use Rattle.vk_meaning.specs.Data.{Value as Result, got, halts, number, pointer, nothing}
use Rattle.vk_ends.specs.Ends.{stop_word}
use Rattle.vk_lane_lines.specs.declared.lines.Told.{Told}
use Rattle.vk_lane_lines.specs.declared.lines.Told.TheVariants.{Off, Stopped, Done, Value}

-- ---- what is told of a lane

-- a lane that ended: its stop, else the number of its word, where the function has a result of a type
abbrev pub ended : Option Ty → (word : ℕ) → Option Stop → Told
ended t word (Some stop) = Stopped stop
ended None word None = Done
ended (Some t) word None = Value (number_of t word)

-- a lane that is active, by what the scalar call on its arguments gives
abbrev pub told_by : Result → Told
told_by (got (number z) w) = Value z
told_by (got (pointer array offset) w) = Done
told_by (got nothing w) = Done
told_by (halts stop w) = Stopped stop

-- a lane that is active, or not
abbrev pub told_of : Option Ty → Bool → (word : ℕ) → Option Stop → Told
told_of t true word stop = ended t word stop
told_of t false word stop = Off

-- ---- texts

abbrev pub told_text : Told → List ℕ
told_text Off = codes "off"
told_text (Stopped stop) = codes "stop " ++ stop_word stop
told_text Done = codes "done"
told_text (Value z) = signed_decimal z

-- lane I: TOLD
abbrev pub line : (lane : ℕ) → Told → List ℕ
line lane told = codes "lane " ++ (decimal lane ++ (codes ": " ++ (told_text told ++ codes "\n")))

-- the line of each of so many lanes, by the type of the result, the active lanes, and the words and stops of all
abbrev pub lane_lines : Option Ty → (lanes : ℕ) → (mask : ℕ → Bool) → (words : ℕ → ℕ) → (stops : ℕ → Option Stop) → List (List ℕ)
lane_lines t n mask words stops = map (λ lane. line lane (told_of t (mask lane) (words lane) (stops lane))) (range_with_len 0 n)

-- ---- results

-- the stop of a lane
abbrev pub stops_in : List (Option Stop) → (lane : ℕ) → Option Stop
stops_in stops lane = get_or stops lane None

-- a lane that ended without a stop has a word of the type
abbrev pub IsResult : Option Ty → Bool → (word : ℕ) → Option Stop → Type 0
IsResult (Some t) true word None = IsCanonical t word
IsResult _ _ word stop = ⊤

abbrev pub AreResults : Option Ty → (lanes : ℕ) → (mask : ℕ → Bool) → (words : ℕ → ℕ) → (stops : ℕ → Option Stop) → Type 0
AreResults t n mask words stops = (lane : ℕ) → lane < n → IsResult t (mask lane) (words lane) (stops lane)
