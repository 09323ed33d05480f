-- What a call of an entry does, beside what a scalar call does. An entry is here a function of its lanes, words and memory; what it is
-- made of plays no part.
use Rattle.std.specs.Prelude.{◌≡◌, ℕ, ◌+◌, ◌==◌, Bool, true, cond, ◌&&◌, List, [], ◌∷◌, ◌++◌, Some, None, is_none}
use Rattle.vk_types.specs.Numbers.{word_of}
use Rattle.vk_kinds.specs.declared.heads.CType.{CType}
use Rattle.vk_kinds.specs.declared.kinds.Kind.{Kind}
use Rattle.vk_meaning.specs.World.{Array, Memory as Cells, Event, World}
use Rattle.vk_meaning.specs.Data.{Datum, number, pointer, nothing, Value, got, halts}
use Rattle.vk_meaning.specs.Meaning.{printed_numbers, world_of}
use Rattle.vk_meaning.specs.Lanes.{Words, arguments_of, AreTyped, AreFitting, AreApart}
use Rattle.vk_meaning.specs.LaneWise.{IsLaneWise}
use Rattle.vk_object.specs.Memory.{Memory, Event as Logged, printed as prints_of, calls_of}
use Rattle.vk_object.specs.Machine.{Given, Called}

-- the events of an evaluation
abbrev pub events_of : Value → List Event
events_of v = (world_of v).events

-- ---- how often the bodies of simd loops are called

-- which entries are bodies of simd loops, and how often an event calls one
pub record Bodies : Type 0 where
  pub is_body : ℕ → Bool
  pub calls : (entry : ℕ) → Event → ℕ

-- how often events call one
abbrev pub body_calls : Bodies → (entry : ℕ) → List Event → ℕ
body_calls b n [] = 0
body_calls b n (e ∷ es) = b.calls n e + body_calls b n es

-- the count of each body rises by its calls for these events
abbrev pub HaveRisen : Bodies → (before after : List Logged) → List Event → Type 0
HaveRisen b before after events = (n : ℕ) → b.is_body n ≡ true → calls_of n after ≡ calls_of n before + body_calls b n events

-- nothing is printed, and no body of a simd loop is called
pub record IsQuiet (b : Bodies) (before after : List Logged) : Type 0 where
  pub prints : prints_of after ≡ prints_of before
  pub counts : HaveRisen b before after []

-- ---- functions without directives

-- the word of what a function gave; a void function gives none
abbrev pub IsResultWord : Datum → ℕ → Type 0
IsResultWord (number z) w = w ≡ word_of z
IsResultWord (pointer array offset) w = ⊥
IsResultWord nothing w = Unit {0}

-- the machine's run ended without a stop, as the scalar one did
pub record IsSameEnd (b : Bodies) (m : Memory) (d : Datum) (w : World) (g : Given) : Type 0 where
  pub going : g.stop 0 ≡ None
  pub value : IsResultWord d (g.value 0)
  pub cells : (a i : ℕ) → g.mem.cells a i ≡ w.memory a i
  pub counts : HaveRisen b m.log g.mem.log w.events

-- After a stop nothing is said of the memory: later lanes of a chunk may have stored.
abbrev pub EndsAlike : Bodies → Memory → Value → Given → Type 0
EndsAlike b m (got d w) g = IsSameEnd b m d w g
EndsAlike b m (halts x w) g = g.stop 0 ≡ Some x

-- the machine prints what the scalar run prints, and ends as it ends
pub record IsSameRun (b : Bodies) (m : Memory) (v : Value) (g : Given) : Type 0 where
  pub prints : prints_of g.mem.log ≡ prints_of m.log ++ printed_numbers (events_of v)
  pub ends : EndsAlike b m v g

-- lane 0 alone
abbrev pub one_lane : (lane : ℕ) → Bool
one_lane j = j == 0

-- a call runs as the scalar function does, from every memory and for all typed arguments
abbrev pub RunsAs : List Array → Bodies → List CType → (scalar : List Datum → Cells → Value) → Called → Type 0
RunsAs arrays b ts scalar called = (m : Memory) (words : Words) → AreTyped ts arrays 1 words one_lane →
    IsSameRun b m (scalar (arguments_of ts words 0) m.cells) (called one_lane words m)

-- ---- functions with directives

-- a lane that is inactive or has stopped keeps its old result
abbrev pub results_of : (mask : ℕ → Bool) → (old : ℕ → ℕ) → Given → (lane : ℕ) → ℕ
results_of mask old g j = cond (mask j && is_none (g.stop j)) (g.value j) (old j)

-- what a call on its lanes does is what the scalar function does on each
pub record IsLaneRun (arrays : List Array) (b : Bodies) (ts : List CType) (scalar : List Datum → Cells → Value) (lanes : ℕ)
    (mask : ℕ → Bool) (words : Words) (m : Memory) (old : ℕ → ℕ) (g : Given) : Type 0 where
  pub wise : IsLaneWise scalar ts arrays lanes mask words m.cells old (results_of mask old g) g.stop g.mem.cells
  pub quiet : IsQuiet b m.log g.mem.log

-- under every mask, for all old results, and for all typed arguments that fit, with lanes that are apart
abbrev pub RunsOnLanes : List Array → Bodies → List CType → List Kind → (scalar : List Datum → Cells → Value) → (lanes : ℕ) → Called → Type 0
RunsOnLanes arrays b ts kinds scalar lanes called = (m : Memory) (mask : ℕ → Bool) (words : Words) (old : ℕ → ℕ) →
    AreTyped ts arrays lanes words mask → AreFitting ts kinds lanes words mask → AreApart ts arrays lanes words mask →
    IsLaneRun arrays b ts scalar lanes mask words m old (called mask words m)
