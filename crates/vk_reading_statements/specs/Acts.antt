-- What the reader does of statements: the values of a function's variables and what it holds stand for a state of the meaning.
use Rattle.std.specs.Prelude.{◌≡◌, ℕ, Bool, cond, List, Result, Ok, Err}
use Rattle.vk_types.specs.declared.types.Stop.{Stop}
use Rattle.vk_io.specs.Counts.{Rose}
use Rattle.vk_io.specs.Sink.{Stays}
use Rattle.vk_meaning.specs.World.{Array, World}
use Rattle.vk_meaning.specs.Statements.{State, Outcome, Effect, Evaluation, fell, broke, continued, returned, stopped, branch}
use Rattle.vk_meaning.specs.declared.reading.RunFail.TheVariants.{Write}
use Rattle.vk_reading.specs.declared.held.Held.{Held}
use Rattle.vk_reading.specs.declared.held.Halt.{Halt}
use Rattle.vk_reading.specs.declared.held.Halt.TheVariants.{Halted, Failed}
use Rattle.vk_reading.specs.Reading.{AreFirst}
use Rattle.vk_reading_steps.specs.Runs.{Run, Stands, HasFront}
use Rattle.vk_reading_steps.specs.Settings.{variables_in}
use Rattle.vk_reading_statements.specs.declared.flow.Flow.{Flow}
use Rattle.vk_reading_statements.specs.Flows.{outcome_in}

-- the world that a statement leaves
abbrev pub world_left : Outcome → World
world_left (fell s) = s.world
world_left (broke s) = s.world
world_left (continued s) = s.world
world_left (returned d w) = w
world_left (stopped stop w) = w

-- it ended so in the meaning too, and what the reader holds stands for the world that is left
pub record EndsSo (arrays : List Array) (start : List ℕ) (o : Outcome) (now : Run) (values : List Held) (result : Result Flow Stop) : Type 0 where
  pub is : o ≡ outcome_in result (variables_in values) (world_left o)
  pub stands : Stands arrays start now (world_left o)

-- How a statement ended in the code and in the meaning; or a failure outside, where the sink has a front of the text.
abbrev pub IsOutcome : List Array → (start : List ℕ) → Outcome → (now : Run) → (values : List Held) → Result Flow Halt → Type 0
IsOutcome arrays start o now values (Ok flow) = EndsSo arrays start o now values (Ok flow)
IsOutcome arrays start o now values (Err (Halted stop)) = EndsSo arrays start o now values (Err stop)
IsOutcome arrays start o now values (Err (Failed fail)) = HasFront start now (world_left o).events

-- where the sink failed, its count of faults rose
abbrev pub HasRisen : (before now : ℕ) → {T : Type 0} → Result T Halt → Type 0
HasRisen before now (Err (Failed Write)) = Rose before now
HasRisen before now _ = Unit {0}

-- From what stood for a state the code does what the effect does there.
pub record Acts (arrays : List Array) (before : Run) (old : List Held) (effect : Effect) (now : Run) (new : List Held) (result : Result Flow Halt) : Type 0 where
  pub ends : (start : List ℕ) (w : World) → Stands arrays start before w
      → IsOutcome arrays start (effect (record { variables = variables_in old; world = w })) now new result
  pub stays : Stays before.out now.out
  pub rise : HasRisen before.out.faults now.out.faults result

-- An effect only adds to the events.
pub record AddsTo (effect : Effect) : Type 0 where
  pub adds : (s : State) → AreFirst s.world.events (world_left (effect s)).events

-- What is left to be done now does, behind what was done, the whole.
pub record Leads (arrays : List Array) (before : Run) (old : List Held) (whole : Effect) (now : Run) (new : List Held) (rest : Effect) : Type 0 where
  pub leads : (end : Run) (last : List Held) (result : Result Flow Halt) → Acts arrays now new rest end last result → Acts arrays before old whole end last result

-- a condition was evaluated: what it chooses is left to be done; or it ended there
abbrev pub Chooses : List Array → (before : Run) → (values : List Held) → (whole : Effect) → (now : Run) → (first second : Effect) → Result Bool Halt → Type 0
Chooses arrays before values whole now first second (Ok on) = Leads arrays before values whole now values (cond on first second)
Chooses arrays before values whole now first second (Err halt) = Acts arrays before values whole now values (Err halt)

-- A condition was evaluated, whatever it chooses of.
pub record Decides (arrays : List Array) (before : Run) (values : List Held) (test : Evaluation) (now : Run) (result : Result Bool Halt) : Type 0 where
  pub chooses : (first second : Effect) → AddsTo first → AddsTo second → Chooses arrays before values (branch test first second) now first second result
