-- What is known of a called function in one lane.
use Rattle.std.specs.Prelude.{◌≡◌, ℕ, ◌^◌, ◌<◌, Bool, true, false, [], ◌++◌, Option, None, ◌⊎◌}
use Rattle.vk_types.specs.Numbers.{IsCanonical}
use Rattle.vk_kinds.specs.declared.heads.CType.{CType}
use Rattle.vk_kinds.specs.declared.heads.CType.TheVariants.{Void, Int, Ptr}
use Rattle.vk_meaning.specs.World.{Memory as Cells, World}
use Rattle.vk_meaning.specs.Data.{Value, got, halts}
use Rattle.vk_meaning.specs.Meaning.{memory_of}
use Rattle.vk_meaning.specs.Lanes.{datum_of}
use Rattle.vk_object.specs.Lane.{with_stop}
use Rattle.vk_object.specs.Machine.{takes}
use Rattle.vk_lane.specs.Runs.{events_of}
use Rattle.vk_lane.specs.Places.{Share, Place, IsVisible}

-- the same value or stop, and memories that agree where the lane sees them
abbrev pub SameEnding : (Seen : ℕ → ℕ → Type 0) → Value → Value → Type 0
SameEnding Seen (got d w) (got d' w') = (d ≡ d') × ((a i : ℕ) → Seen a i → w.memory a i ≡ w'.memory a i)
SameEnding Seen (got d w) (halts z w') = ⊥
SameEnding Seen (halts z w) (got d' w') = ⊥
SameEnding Seen (halts z w) (halts z' w') = (z ≡ z') × ((a i : ℕ) → Seen a i → w.memory a i ≡ w'.memory a i)

-- the scalar function, on the arguments of lane j, reads what the lane sees, writes what it owns, and tells nothing
pub record IsLocal (x : Place) (j : ℕ) (owned : ℕ → ℕ → Type 0) (scalar : Cells → Value) : Type 0 where
  pub same : (m n : Cells) → ((a i : ℕ) → IsVisible x j a i → m a i ≡ n a i) → SameEnding (IsVisible x j) (scalar m) (scalar n)
  pub keeps : (m : Cells) (a i : ℕ) → (owned a i → ⊥) → memory_of (scalar m) a i ≡ m a i
  pub silent : (m : Cells) → events_of (scalar m) ≡ []
  pub own : (a i : ℕ) → owned a i → x.Own j a i
  pub decides : (a i : ℕ) → owned a i ⊎ (owned a i → ⊥)

-- the events that stand before a call stay before its own
abbrev pub world_behind : World → Value → World
world_behind w v = record { memory = memory_of v; events = w.events ++ events_of v }

abbrev pub value_behind : World → Value → Value
value_behind w (got d u) = got d (world_behind w (got d u))
value_behind w (halts z u) = halts z (world_behind w (halts z u))

-- a word that a call gives; a void function gives none
abbrev pub IsTaken : CType → ℕ → Type 0
IsTaken Void w = Unit {0}
IsTaken (Int t) w = IsCanonical t w
IsTaken (Ptr to written) w = w < 2 ^ 64

-- what a call does to a lane that makes it: the result's word comes into its register, or the lane stops
abbrev pub Takes : CType → Option ℕ → Share → Share → Value → Type 0
Takes rt result h h' (got d w) = (word : ℕ) × (d ≡ datum_of rt word) × IsTaken rt word × (h' ≡ record { lane = takes result h.lane word None; world = w })
Takes rt result h h' (halts z w) = h' ≡ record { lane = with_stop h.lane z; world = w }

abbrev pub TakesIf : Bool → CType → Option ℕ → Share → Share → Value → Type 0
TakesIf true rt result h h' v = Takes rt result h h' v
TakesIf false rt result h h' v = h' ≡ h
