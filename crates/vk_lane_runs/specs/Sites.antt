-- Where a code runs, as its maker sees it.
use Rattle.std.specs.Prelude.{◌≡◌, ℕ, ◌<◌, Bool, List, map, length, slice_get}
use Rattle.vk_kinds.specs.declared.heads.CType.{CType}
use Rattle.vk_meaning.specs.Types.{type_at}
use Rattle.vk_meaning.specs.Expressions.{Context}
use Rattle.vk_meaning.specs.Lanes.{Words}
use Rattle.vk_object.specs.Memory.{Memory}
use Rattle.vk_object.specs.Machine.{Site}
use Rattle.vk_lane.specs.Runs.{Bodies}
use Rattle.vk_lane.specs.Places.{extent_of, type_in}
use Rattle.vk_lane.specs.Entries.{LaneCall, on_lanes, alone}

-- the machine has the program's arrays and its limit of turns, and the first registers are the parameters
pub record IsCodeSite (c : Context) (s : Site) (ts : List CType) : Type 0 where
  pub extents : s.arrays ≡ map extent_of c.arrays
  pub turns : s.turns ≡ c.turns
  pub params : s.code.routine.params ≡ length ts
  pub types : (r : ℕ) → r < length ts → type_in (slice_get s.code.routine.regs r) ≡ type_at ts r

-- a call on the lanes of a mask, and one on a lane alone
abbrev pub lanes_call : Context → Site → Bodies → List CType → (mask : ℕ → Bool) → Words → Memory → LaneCall
lanes_call c s b ts mask words m = record { context = c; site = s; bodies = b; mode = on_lanes mask; types = ts; words = words; memory = m }

abbrev pub alone_call : Context → Site → Bodies → List CType → Words → Memory → LaneCall
alone_call c s b ts words m = record { context = c; site = s; bodies = b; mode = alone; types = ts; words = words; memory = m }
