-- A call of a slot as appended code, where each lane passes integers of its own.
use Rattle.std.specs.Prelude.{◌≡◌, ◌==◌, ℕ, ◌<◌, false, List, length, get_or, Some, slice_get}
use Rattle.vk_types.specs.declared.types.Ty.{Ty}
use Rattle.vk_kinds.specs.declared.heads.CType.{CType}
use Rattle.vk_kinds.specs.declared.heads.CType.TheVariants.{Int}
use Rattle.vk_kinds.specs.declared.kinds.Kind.{Kind}
use Rattle.vk_kinds.specs.declared.kinds.Kind.TheVariants.{Vector}
use Rattle.vk_meaning.specs.World.{Memory as Cells}
use Rattle.vk_meaning.specs.Data.{Datum, Value}
use Rattle.vk_meaning.specs.Types.{type_at}
use Rattle.vk_code.specs.Listing.{CallSite}
use Rattle.vk_object.specs.Machine.{Target, arg_reg, kind_at, target_of}
use Rattle.vk_lane.specs.Runs.{RunsOnLanes}
use Rattle.vk_lane.specs.Entries.{LaneCall, place_of}
use Rattle.vk_lane_calls.specs.Callable.{HushesOver, IsLocalCall, OwnsOpenCells}
use Rattle.vk_construct.specs.Adds.{HasType, Written}

-- the slot's arguments are integers of the parameters' types, its result one of type t in register rd
pub record PassesIntegers (w : Written) (slot : CallSite) (ts : List CType) (t : Ty) (rd : ℕ) : Type 0 where
  pub integers : (p : ℕ) → p < length ts → (s : Ty) × (type_at ts p ≡ Int s)
  pub args : (p : ℕ) → p < length ts → slice_get w.regs (arg_reg slot p) ≡ Some (type_at ts p)
  pub result : slot.result ≡ Some rd
  pub typed : HasType w rd t

-- where the code runs, slot k reaches an entry of several lanes that is lane-wise for this function, with every argument of the kind v
pub record ReachesEntry (q : LaneCall) (k : ℕ) (ts : List CType) (rt : CType) (scalar : List Datum → Cells → Value) : Type 0 where
  pub hushes : HushesOver (place_of q) q.bodies
  pub owns : OwnsOpenCells (place_of q)
  pub local : IsLocalCall ts rt q.context.arrays scalar
  pub target : Target
  pub named : target_of q.site k ≡ Some target
  pub several : (target.entry.lanes == 1) ≡ false
  pub kinds : List Kind
  pub vectors : (p : ℕ) → get_or kinds p Vector ≡ Vector
  pub entry_vectors : (p : ℕ) → p < length ts → kind_at target.entry p ≡ Vector
  pub runs : RunsOnLanes q.context.arrays q.bodies ts kinds scalar q.site.entry.lanes (q.site.calls target.number)
