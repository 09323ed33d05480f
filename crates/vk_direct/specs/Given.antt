-- What a call from outside gives.
use Rattle.std.specs.Prelude.{◌≡◌, ℕ, ◌+◌, Bool, ◌&&◌, IsTrue, ◌++◌, Option, is_none, Result, Ok, Err}
use Rattle.vk_io.specs.declared.outside.Outside.{Outside}
use Rattle.vk_io.specs.declared.outside.Outside.TheVariants.{Failed, Memory as NoMemory}
use Rattle.vk_io.specs.Counts.{Rose}
use Rattle.vk_io.specs.Sink.{GrowsWithin, Stays}
use Rattle.vk_object.specs.Lane.{LaneState}
use Rattle.vk_object.specs.Machine.{Given, word_in}
use Rattle.vk_object.specs.Memory.{calls_of}
use Rattle.vk_access.specs.Outer.{Outer, text_of, told}

-- the lane was on, and did not stop
abbrev pub ends_on : (ℕ → Bool) → (ℕ → LaneState) → ℕ → Bool
ends_on on lane j = on j && is_none (lane j).stop

-- the lane was on, and g does not stop it
abbrev pub gives_on : (ℕ → Bool) → Given → ℕ → Bool
gives_on on g j = on j && is_none (g.stop j)

-- from a to b a call was made that gives g: its cells are there, its calls were counted, and its lines were put
pub record Leaves (g : Given) (a b : Outer) : Type 0 where
  pub cells : b.cells ≡ g.mem.cells
  pub counts : (e : ℕ) → b.counts e ≡ told (a.counts e + calls_of e g.mem.log)
  pub stays : Stays a.sink b.sink
  pub text : IsTrue a.sink.tells → b.sink.bytes ≡ a.sink.bytes ++ text_of g.mem.log

-- the lanes of its frame have its results and stops
pub record IsIn (g : Given) (result : Option ℕ) (lane : ℕ → LaneState) : Type 0 where
  pub values : (j : ℕ) → g.value j ≡ word_in result (lane j)
  pub stops : (j : ℕ) → g.stop j ≡ (lane j).stop

-- from a to b a call was begun that gives g, and a sink failed in it: it had taken a front of its lines
pub record Fails (g : Given) (a b : Outer) (fault : Outside) : Type 0 where
  pub stays : Stays a.sink b.sink
  pub failed : fault ≡ Failed → Rose a.sink.faults b.sink.faults
  pub lean : IsTrue a.sink.is_lean → fault ≡ NoMemory → ⊥
  pub front : IsTrue a.sink.tells → GrowsWithin a.sink.bytes b.sink.bytes (text_of g.mem.log)

-- one or the other
abbrev pub Calls : Result (Unit {0}) Outside → Given → Outer → Outer → Type 0
Calls (Ok done) g a b = Leaves g a b
Calls (Err fault) g a b = Fails g a b fault
