-- What the reader does of a run: it holds the cells of some arrays and a sink, which stand for a world of the meaning.
use Rattle.std.specs.Prelude.{◌≡◌, ◌++◌, ℕ, List, flat_map, Result, Ok, Err, IsTrue}
use Rattle.vk_types.specs.declared.types.Stop.{Stop}
use Rattle.vk_io.specs.Counts.{Rose}
use Rattle.vk_io.specs.Sink.{SinkState, GrowsWithin, Stays}
use Rattle.vk_meaning.specs.World.{Array, Event, World}
use Rattle.vk_meaning.specs.Data.{Datum, Value, got, halts, Action, and_then}
use Rattle.vk_meaning.specs.Meaning.{line_of, printed_numbers, world_of}
use Rattle.vk_meaning.specs.declared.reading.RunFail.TheVariants.{Write}
use Rattle.vk_reading.specs.declared.cells.Row.{Row}
use Rattle.vk_reading.specs.declared.held.Held.{Held}
use Rattle.vk_reading.specs.declared.held.Halt.{Halt}
use Rattle.vk_reading.specs.declared.held.Halt.TheVariants.{Halted, Failed}
use Rattle.vk_reading.specs.Cells.{memory_in, AreRowsOf}
use Rattle.vk_reading.specs.Held.{datum_of}
use Rattle.vk_reading.specs.Reading.{AreFirst}

-- what the reader holds
pub record Run : Type 0 where
  pub rows : List Row
  pub out : SinkState

abbrev pub run_of : List Row → SinkState → Run
run_of rows out = record { rows = rows; out = out }

-- the text of what was printed
abbrev pub text_of : List Event → List ℕ
text_of events = flat_map line_of (printed_numbers events)

-- It stands for a world: its cells are the memory, and the sink has the text of the events behind what it began with.
pub record Stands (arrays : List Array) (start : List ℕ) (r : Run) (w : World) : Type 0 where
  pub rows : AreRowsOf r.rows arrays
  pub memory : w.memory ≡ memory_in r.rows
  pub text : IsTrue r.out.tells → r.out.bytes ≡ start ++ text_of w.events

-- the sink has a front of the text of these events behind what it began with
pub record HasFront (start : List ℕ) (r : Run) (events : List Event) : Type 0 where
  pub front : IsTrue r.out.tells → GrowsWithin start r.out.bytes (text_of events)

-- How an evaluation ended in the code and in the meaning: the same value or the same stop, and it stands for the world that is left;
-- or a failure outside, where the sink has a front of the text.
abbrev pub IsEnd : List Array → (start : List ℕ) → Value → Run → Result Held Halt → Type 0
IsEnd arrays start (got d w) now (Ok h) = (d ≡ datum_of h) × Stands arrays start now w
IsEnd arrays start (got d w) now (Err (Halted stop)) = ⊥
IsEnd arrays start (got d w) now (Err (Failed fail)) = HasFront start now w.events
IsEnd arrays start (halts x w) now (Ok h) = ⊥
IsEnd arrays start (halts x w) now (Err (Halted stop)) = (x ≡ stop) × Stands arrays start now w
IsEnd arrays start (halts x w) now (Err (Failed fail)) = HasFront start now w.events

-- where the sink failed, its count of faults rose
abbrev pub IsRise : (before now : ℕ) → Result Held Halt → Type 0
IsRise before now (Err (Failed Write)) = Rose before now
IsRise before now _ = Unit {0}

-- From what stood for a world the code does what the action does there.
pub record Does (arrays : List Array) (before : Run) (action : Action) (now : Run) (result : Result Held Halt) : Type 0 where
  pub ends : (start : List ℕ) (w : World) → Stands arrays start before w → IsEnd arrays start (action w) now result
  pub stays : Stays before.out now.out
  pub rise : IsRise before.out.faults now.out.faults result

-- An action only adds to the events.
pub record Adds (action : Action) : Type 0 where
  pub adds : (w : World) → AreFirst w.events (world_of (action w)).events

-- The code goes on from a result with the next action, which changes nothing that the reader holds.
pub record GoesOn (arrays : List Array) (now : Run) (result : Result Held Halt) (next : Datum → Action) (end : Result Held Halt) : Type 0 where
  pub goes : (before : Run) (first : Action) → Does arrays before first now result → Does arrays before (and_then first next) now end

-- a value or a stop, as an evaluation answers it
abbrev pub settled : Result Held Stop → Result Held Halt
settled (Ok h) = Ok h
settled (Err stop) = Err (Halted stop)

-- Arguments were evaluated: what is done with them then is done behind all of it; or they ended it.
abbrev pub IsPassed : List Array → (before : Run) → Action → (now : Run) → (after : Action) → Result (Unit {0}) Halt → Type 0
IsPassed arrays before action now after (Ok done) = (end : Run) (r : Result Held Halt) → Does arrays now after end r → Does arrays before action end r
IsPassed arrays before action now after (Err halt) = Does arrays before action now (Err halt)

-- the same for whatever is done with the data of the arguments
pub record DoesArguments (arrays : List Array) (before : Run) (action : (List Datum → Action) → Action) (now : Run) (given : List Datum) (result : Result (Unit {0}) Halt) : Type 0 where
  pub passes : (next : List Datum → Action) → ((ds : List Datum) → Adds (next ds)) → IsPassed arrays before (action next) now (next given) result
