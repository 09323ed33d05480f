-- What a call on several lanes gives: in each lane what the scalar call gives.
use Rattle.std.specs.Prelude.{◌≡◌, ℕ, ◌<◌, Bool, true, false, List, Option, Some, None}
use Rattle.vk_types.specs.declared.types.Stop.{Stop}
use Rattle.vk_types.specs.Numbers.{word_of}
use Rattle.vk_kinds.specs.declared.heads.CType.{CType}
use Rattle.vk_meaning.specs.World.{Array, Memory}
use Rattle.vk_meaning.specs.Data.{Datum, number, pointer, nothing, Value, got, halts}
use Rattle.vk_meaning.specs.Meaning.{memory_of}
use Rattle.vk_meaning.specs.Lanes.{Words, arguments_of, NamesCell}

-- A lane has this value as its new result and no stop, or this stop and its old result. A void function has no result, and nothing is
-- said of its lanes' new ones; no function gives a pointer.
abbrev pub IsResult : Value → (old new : ℕ) → Option Stop → Type 0
IsResult (got (number z) w) old new stop = (new ≡ word_of z) × (stop ≡ None)
IsResult (got (pointer array offset) w) old new stop = ⊥
IsResult (got nothing w) old new stop = stop ≡ None
IsResult (halts x w) old new stop = (new ≡ old) × (stop ≡ Some x)

-- Each active lane has what its scalar run gives. Each cell that is an active lane's own holds what that run leaves there, also where
-- it stopped; every other cell is as in m. Inactive lanes keep their old results and have no stop.
pub record AreLanesOf (Own : (lane array index : ℕ) → Type 0) (scalar : (lane : ℕ) → Value) (lanes : ℕ) (mask : ℕ → Bool)
    (m : Memory) (old new : ℕ → ℕ) (stops : ℕ → Option Stop) (m' : Memory) : Type 0 where
  pub results : (j : ℕ) → j < lanes → mask j ≡ true → IsResult (scalar j) (old j) (new j) (stops j)
  pub own : (j : ℕ) → j < lanes → mask j ≡ true → (a c : ℕ) → Own j a c → m' a c ≡ memory_of (scalar j) a c
  pub others : (a c : ℕ) → ((j : ℕ) → j < lanes → mask j ≡ true → Own j a c → ⊥) → m' a c ≡ m a c
  pub idle : (j : ℕ) → j < lanes → mask j ≡ false → (new j ≡ old j) × (stops j ≡ None)

-- The new results, stops and memory are those of a call on lanes of what `scalar` does with one lane's arguments: a cell is a lane's
-- own where a written pointer of it points there.
abbrev pub IsLaneWise : (scalar : List Datum → Memory → Value) → List CType → List Array → (lanes : ℕ) → (mask : ℕ → Bool) → Words →
    (m : Memory) → (old new : ℕ → ℕ) → (stops : ℕ → Option Stop) → (m' : Memory) → Type 0
IsLaneWise scalar ts arrays lanes mask words m old new stops m' =
    AreLanesOf (λ j. NamesCell ts arrays (arguments_of ts words j)) (λ j. scalar (arguments_of ts words j) m) lanes mask m old new stops m'
