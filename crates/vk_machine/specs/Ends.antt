-- How the run of a program ends.
use Rattle.std.specs.Prelude.{◌≡◌, ℕ, nat_lt, IsTrue, Option, Some, None, Result, Ok, Err}
use Rattle.vk_types.specs.declared.types.Stop.{Stop}
use Rattle.vk_io.specs.declared.outside.Outside.{Outside}
use Rattle.vk_io.specs.declared.outside.Outside.TheVariants.{Failed, Memory as NoMemory}
use Rattle.vk_io.specs.Counts.{Rose}
use Rattle.vk_io.specs.Sink.{GrowsWithin, Stays}
use Rattle.vk_meaning.specs.declared.reading.Reading.{Reading}
use Rattle.vk_meaning.specs.declared.reading.Reading.TheVariants.{Done, Stopped}
use Rattle.vk_meaning.specs.declared.reading.RunFail.{RunFail}
use Rattle.vk_meaning.specs.declared.reading.RunFail.TheVariants.{Write, Memory}
use Rattle.vk_object.specs.Machine.{Given, first_memory, runs}
use Rattle.vk_object.specs.Tables.{Tables}
use Rattle.vk_access.specs.Outer.{Outer, text_of}
use Rattle.vk_direct.specs.Given.{Leaves}

-- the run of an image's program: one call of its entry `main`, with its lane on, from the first words of the arrays
abbrev pub main_number : Option ℕ → ℕ
main_number None = 0
main_number (Some n) = n

unfoldable pub program : Tables → ℕ → Given
program image turns = runs image turns (main_number image.main) (λ j. nat_lt j 1) (λ p j. 0) (first_memory image)

-- how it ends, by the stop of its lane
abbrev pub end_of : Option Stop → Reading
end_of None = Done
end_of (Some x) = Stopped x

-- from a to b a sink failed in the run: it had taken a front of what the run prints
pub record IsCutShort (g : Given) (a b : Outer) : Type 0 where
  pub front : IsTrue a.sink.tells → GrowsWithin a.sink.bytes b.sink.bytes (text_of g.mem.log)
  pub stays : Stays a.sink b.sink

-- From a to b it ran, and ended as it does by the image; or a sink failed in it, and its count of faults rose; or it wanted memory,
-- which it never does over a lean sink.
abbrev pub Ends : Result Reading RunFail → Given → Outer → Outer → Type 0
Ends (Ok end) g a b = (end ≡ end_of (g.stop 0)) × Leaves g a b
Ends (Err Write) g a b = Rose a.sink.faults b.sink.faults × IsCutShort g a b
Ends (Err Memory) g a b = (IsTrue a.sink.is_lean → ⊥) × IsCutShort g a b

-- what a sink's answer and the lane's stop say of the end
abbrev pub ending : Result (Unit {0}) Outside → Option Stop → Result Reading RunFail
ending (Ok done) stop = Ok (end_of stop)
ending (Err Failed) stop = Err Write
ending (Err NoMemory) stop = Err Memory
