-- What a piece of code does in one lane.
use Rattle.std.specs.Prelude.{◌≡◌, ℕ, zero, suc, ◌+◌, ◌<◌, false, List, ◌++◌, length, ◌⊎◌, Some}
use Rattle.vk_types.specs.declared.types.Stop.{Stop}
use Rattle.vk_code.specs.declared.instruction.Instr.{Instr}
use Rattle.vk_meaning.specs.World.{World}
use Rattle.vk_object.specs.Memory.{Memory}
use Rattle.vk_object.specs.Lane.{View, is_live, out_of_turns}
use Rattle.vk_object.specs.Machine.{run}
use Rattle.vk_lane.specs.Places.{Share, Shares, machine_of, view_of, put_share, Place, lanes_of, IsSound, Agree}

-- a condition on a lane's share, and what happens to the share
abbrev pub Before : Type 1
Before = (lane : ℕ) → Share → Type 0

abbrev pub Change : Type 1
Change = (lane : ℕ) → (before after : Share) → Type 0

abbrev pub Always : Before
Always j h = Unit {0}

abbrev pub EachSound : Place → Shares → Type 0
EachSound x hs = (j : ℕ) → j < lanes_of x → IsSound x j (hs j)

-- Whatever stands behind the piece: running it takes each lane, where P holds of all of them, to a share that is F-related to it.
pub record Does (x : Place) (P : Before) (piece : List Instr) (F : Change) : Type 0 where
  pub by : (rest : List Instr) (n k : ℕ) → k ≡ length piece + n → (hs : Shares) (m : Memory) → Agree x hs m → EachSound x hs →
      ((j : ℕ) → j < lanes_of x → P j (hs j)) →
      (hs' : Shares) × (m' : Memory) × (run x.site (piece ++ rest) zero k (machine_of hs m) ≡ run x.site rest zero n (machine_of hs' m')) ×
      Agree x hs' m' × EachSound x hs' × ((j : ℕ) → j < lanes_of x → F j (hs j) (hs' j))

-- what one step does in lane j
pub record StepsIn (x : Place) (j : ℕ) (F : Change) (step : View → View) (hs : Shares) (m : Memory) : Type 0 where
  pub share : Share
  pub mem : Memory
  pub is : step (view_of (hs j) m) ≡ view_of share mem
  pub agree : Agree x (put_share hs j share) mem
  pub sound : IsSound x j share
  pub does : F j (hs j) share

-- what it does in every lane, one after another
pub record Steps (x : Place) (P : Before) (F : Change) (step : (lane : ℕ) → View → View) : Type 0 where
  pub by : (j : ℕ) → j < lanes_of x → (hs : Shares) (m : Memory) → Agree x hs m → IsSound x j (hs j) → P j (hs j) → StepsIn x j F (step j) hs m

-- the lane stops where it is live
abbrev pub out_share : (mask : ℕ) → Share → Share
out_share m h = record { lane = out_of_turns m h.lane; world = h.world }

-- a lane's part of a loop of at most n turns: some turns, and then it is not live, or it has made n turns
abbrev pub Repeats : (mask : ℕ) → Change → (turns : ℕ) → Change
Repeats m F zero j h h' = h' ≡ out_share m h
Repeats m F (suc n) j h h' = ((is_live m h.lane ≡ false) × (h' ≡ h)) ⊎ ((mid : Share) × F j h mid × Repeats m F n j mid h')

-- the lane has stopped, with this world
pub record Stays (z : Stop) (w : World) (h' : Share) : Type 0 where
  pub stop : h'.lane.stop ≡ Some z
  pub world : h'.world ≡ w
