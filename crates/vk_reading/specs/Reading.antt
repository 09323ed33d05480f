-- What the reader of a program answers and prints: the contract of `read_program`.
use Rattle.std.specs.Prelude.{◌≡◌, ◌++◌, ℕ, List, Option, Some, None, Result, Ok, Err, IsTrue}
use Rattle.vk_types.specs.declared.types.Stop.{Stop}
use Rattle.vk_io.specs.Counts.{Rose}
use Rattle.vk_io.specs.Sink.{SinkState, GrowsWithin, Stays}
use Rattle.vk_rules_book.specs.Rules.{Subject}
use Rattle.vk_meaning.specs.World.{Event, World}
use Rattle.vk_meaning.specs.Data.{got, halts, Action}
use Rattle.vk_meaning.specs.Meaning.{stop_of, world_of, reading, reading_text}
use Rattle.vk_meaning.specs.declared.reading.Reading.{Reading}
use Rattle.vk_meaning.specs.declared.reading.Reading.TheVariants.{Done, Stopped}
use Rattle.vk_meaning.specs.declared.reading.RunFail.{RunFail}
use Rattle.vk_meaning.specs.declared.reading.RunFail.TheVariants.{Write, Memory}
use Rattle.vk_reading.specs.declared.held.Held.{Held}
use Rattle.vk_reading.specs.declared.held.Halt.{Halt}
use Rattle.vk_reading.specs.declared.held.Halt.TheVariants.{Halted, Failed}
use Rattle.vk_reading.specs.Held.{datum_of, IsHeld}

-- ---- programs

-- how a program ends, by the stop of its reading
abbrev pub end_of : Option Stop → Reading
end_of None = Done
end_of (Some x) = Stopped x

-- A reading of these units that ends: it ends as the meaning does, and the sink has grown by the reading's text.
pub record Reads (units : List Subject) (turns : ℕ) (before now : SinkState) (end : Reading) : Type 0 where
  pub end_is : end ≡ end_of (stop_of (reading units turns))
  pub text : IsTrue before.tells → now.bytes ≡ before.bytes ++ reading_text (reading units turns)

-- What `read_program` does with a sink: it reads, or it failed in the midst, where a front of the text was put. A fault is answered
-- only where the sink's count of faults rose.
abbrev pub ReadsProgram : (units : List Subject) → (turns : ℕ) → (before now : SinkState) → Result Reading RunFail → Type 0
ReadsProgram units turns before now (Ok end) = Reads units turns before now end × Stays before now
ReadsProgram units turns before now (Err Write) =
    Rose before.faults now.faults × (IsTrue before.tells → GrowsWithin before.bytes now.bytes (reading_text (reading units turns))) × Stays before now
ReadsProgram units turns before now (Err Memory) =
    (IsTrue before.tells → GrowsWithin before.bytes now.bytes (reading_text (reading units turns))) × Stays before now

-- ---- evaluations

-- events that come first in a run
pub record AreFirst (events all : List Event) : Type 0 where
  pub rest : List Event
  pub parts : all ≡ events ++ rest

-- An evaluation that began in one world and left another one: it has the action's value or stop, and left the action's world; or it
-- failed outside, where its events so far are the first ones of the action's.
abbrev pub IsEvaluated : Action → (before now : World) → Result Held Halt → Type 0
IsEvaluated action before now (Ok h) = (action before ≡ got (datum_of h) now) × IsHeld h
IsEvaluated action before now (Err (Halted x)) = action before ≡ halts x now
IsEvaluated action before now (Err (Failed fail)) = AreFirst now.events (world_of (action before)).events
