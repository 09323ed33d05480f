-- What is outside the frames of calls: cells, counts and a sink; and what a part of a run does to them.
use Rattle.std.specs.Prelude.{◌≡◌, ℕ, ◌+◌, ◌-◌, ◌^◌, min, Bool, Option, cond, ℤ, IsTrue, List, [], ◌∷◌, ◌++◌, Result, Ok, Err, slice_index, codes}
use Rattle.std.specs.Fmt.{signed_decimal}
use Rattle.vk_io.specs.declared.outside.Outside.{Outside}
use Rattle.vk_io.specs.declared.outside.Outside.TheVariants.{Failed, Memory as NoMemory}
use Rattle.vk_io.specs.Counts.{Rose}
use Rattle.vk_io.specs.Sink.{GrowsWithin, Puts, SinkState, Stays}
use Rattle.vk_object.specs.Lane.{LaneState}
use Rattle.vk_types.specs.declared.types.Stop.{Stop}
use Rattle.vk_object.specs.Machine.{Ran, World}
use Rattle.vk_object.specs.Memory.{Event, Prints, Calls, Memory, calls_of}
use Rattle.vk_access.specs.declared.store.Store.{Store}
use Rattle.vk_access.specs.Cells.{cells_in}

pub record Outer : Type 0 where
  pub cells : ℕ → ℕ → ℕ
  pub counts : ℕ → ℕ
  pub sink : SinkState

-- a count stays at its last value
abbrev pub told : ℕ → ℕ
told n = min n (2 ^ 64 - 1)

abbrev pub outer_of : Store → SinkState → Outer
outer_of store sink = record { cells = cells_in store.cells.items; counts = λ e. told (slice_index store.counts.items e); sink = sink }

-- the lines of the numbers that were printed
abbrev pub text_of : List Event → List ℕ
text_of [] = []
text_of (Prints n ∷ es) = (signed_decimal n ++ codes "\n") ++ text_of es
text_of (Calls e ∷ es) = text_of es

abbrev pub memory_of : Outer → List Event → Memory
memory_of o log = record { cells = o.cells; log = log }

-- from a to b: some events came, counts and bytes are those after them, and what F makes of the one memory is what G makes of the
-- other
pub record Leads (X : Type 0) (a b : Outer) (F G : Memory → X) : Type 0 where
  pub events : List Event
  pub counted : (e : ℕ) → b.counts e ≡ told (a.counts e + calls_of e events)
  pub stays : Stays a.sink b.sink
  pub bytes : IsTrue a.sink.tells → b.sink.bytes ≡ a.sink.bytes ++ text_of events
  pub leads : (log : List Event) → F (memory_of a log) ≡ G (memory_of b (log ++ events))

-- the bytes have grown by a front of the lines of what was noted in the log
pub record IsCut (old new : List ℕ) (log : List Event) (after : Memory) : Type 0 where
  pub events : List Event
  pub appended : after.log ≡ log ++ events
  pub grown : GrowsWithin old new (text_of events)

-- from a to b, where a sink failed: it had taken a front of what F prints
pub record Breaks (a b : Outer) (fault : Outside) (F : Memory → Memory) : Type 0 where
  pub stays : Stays a.sink b.sink
  pub failed : fault ≡ Failed → Rose a.sink.faults b.sink.faults
  pub lean : IsTrue a.sink.is_lean → fault ≡ NoMemory → ⊥
  pub front : IsTrue a.sink.tells → (log : List Event) → IsCut a.sink.bytes b.sink.bytes log (F (memory_of a log))

-- a world with these lanes
abbrev pub world : (ℕ → LaneState) → Memory → World
world lane mem = record { lane = lane; mem = mem }

-- from lanes l and a to lanes k and b by the step F
abbrev pub Goes : (ℕ → LaneState) → (ℕ → LaneState) → Outer → Outer → (World → World) → Type 0
Goes l k a b F = Leads World a b (λ mem. F (world l mem)) (λ mem. world k mem)

-- the same, or the sink failed in it
abbrev pub Runs : Result (Unit {0}) Outside → (ℕ → LaneState) → (ℕ → LaneState) → Outer → Outer → (World → World) → Type 0
Runs (Ok done) l k a b F = Goes l k a b F
Runs (Err fault) l k a b F = Breaks a b fault (λ mem. (F (world l mem)).mem)

-- the line of the number was put, where the lane is live
abbrev pub PutsLive : Bool → List ℕ → List ℕ → Result (Unit {0}) Outside → ℤ → Type 0
PutsLive live old new r n = Puts old new r (cond live (signed_decimal n ++ codes "\n") [])

-- calls one after another, which F makes, with the stop that ended them; or the sink failed in them
abbrev pub RunsCalls : Result (Option Stop) Outside → Outer → Outer → (Memory → Ran) → Type 0
RunsCalls (Ok stop) a b F = Leads Ran a b F (λ mem. record { stop = stop; mem = mem })
RunsCalls (Err fault) a b F = Breaks a b fault (λ mem. (F mem).mem)
