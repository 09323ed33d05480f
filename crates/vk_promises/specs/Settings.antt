-- Where a code of a unit runs, as its maker sees it: the scalar meaning on one side, the machine on the other, and what is known of the
-- calls that it makes. Neither the image nor other units occur.
use Rattle.std.specs.Prelude.{◌≡◌, ◌<◌, ◌≤◌, ◌^◌, ℕ, true, false, Bool, List, [], map, length, slice_get, unwrap_or, Some, Contains}
use Rattle.vk_types.specs.declared.types.Ty.{Ty}
use Rattle.vk_kinds.specs.declared.heads.CType.{CType}
use Rattle.vk_kinds.specs.declared.kinds.Kind.{Kind}
use Rattle.vk_kinds.specs.declared.kinds.Param.{Param}
use Rattle.vk_ast.specs.declared.names.NameId.{NameId}
use Rattle.vk_rules_book.specs.Scopes.{an_object, meaning_of, text_of}
use Rattle.vk_rules_book.specs.Typings.{wanted_types}
use Rattle.vk_meaning.specs.World.{array_at, Memory as Cells, World}
use Rattle.vk_meaning.specs.Data.{Datum, Value}
use Rattle.vk_meaning.specs.Expressions.{Context}
use Rattle.vk_meaning.specs.Meaning.{ended, first_variables}
use Rattle.vk_meaning.specs.Programs.{Definition, first_point}
use Rattle.vk_meaning.specs.Statements.{run}
use Rattle.vk_meaning_terms.specs.Ranges.{result_in}
use Rattle.vk_meaning_laws.specs.Reach.{behind_events}
use Rattle.vk_code.specs.Listing.{CallSite, Listing}
use Rattle.vk_object.specs.declared.tables.EntryKind.{EntryKind}
use Rattle.vk_object.specs.declared.tables.EntryKind.TheVariants.{Ordinary, Scalar, N, M, Chunk, Rest}
use Rattle.vk_object.specs.Machine.{Site}
use Rattle.vk_object.specs.Tables.{EntryLists}
use Rattle.vk_lane.specs.Places.{extent_of}
use Rattle.vk_lane.specs.Runs.{Bodies, RunsAs, RunsOnLanes}
use Rattle.vk_lane_calls.specs.Callable.{IsLocalCall}
use Rattle.vk_sites.specs.Calls.{CallText}
use Rattle.vk_agree.specs.Agree.{IsTurnLimit}
use Rattle.vk_joins.specs.Choice.{all_match}
use Rattle.vk_joins.specs.Codes.{Symbols, slot_shapes}
use Rattle.vk_joins.specs.Linked.{IsLinked}

pub record Setting : Type 0 where
  -- the scalar meaning: arrays, calls, turns
  pub context : Context
  -- the machine: the code, its entry, and what the entries do that it calls
  pub site : Site
  -- the bodies of simd loops
  pub bodies : Bodies
  -- the number of the array of each object's name
  pub array : (text : List ℕ) → ℕ

-- ---- calls

-- what a called function means
abbrev pub scalar_call : Context → NameId → List Datum → Cells → Value
scalar_call c id ds m = c.call id ds (record { memory = m; events = [] })

-- the types of a called function's parameters, and of its result
abbrev pub types_called : CallText → List CType
types_called c = wanted_types (meaning_of c.scope c.callee)

abbrev pub result_called : CallText → CType
result_called c = result_in (meaning_of c.scope c.callee)

abbrev pub kinds_in : List Param → List Kind
kinds_in ps = map (λ (p : Param). p.kind) ps

-- a variant has the lanes of the running code, kinds that the slot's shapes match, and does on its lanes what the function means
pub record MayCallVariant (t : Setting) (c : CallText) (slot : CallSite) (number : ℕ) (y : EntryLists) : Type 0 where
  pub lanes : y.lanes ≡ t.site.entry.lanes
  pub fits : all_match (slot_shapes slot) (types_called c) y.params (slot_shapes slot) ≡ true
  pub does : RunsOnLanes t.context.arrays t.bodies (types_called c) (kinds_in y.params) (scalar_call t.context c.callee) y.lanes (t.site.calls number)

-- lane code for one lane, which is called lane by lane
pub record MayCallScalar (t : Setting) (c : CallText) (number : ℕ) (y : EntryLists) : Type 0 where
  pub lanes : y.lanes ≡ 1
  pub does : RunsOnLanes t.context.arrays t.bodies (types_called c) [] (scalar_call t.context c.callee) 1 (t.site.calls number)

-- a function without directives, which only such functions call
pub record MayCallOrdinary (t : Setting) (c : CallText) (number : ℕ) (y : EntryLists) : Type 0 where
  pub caller : t.site.entry.kind ≡ Ordinary
  pub lanes : y.lanes ≡ 1
  pub does : RunsAs t.context.arrays t.bodies (types_called c) (scalar_call t.context c.callee) (t.site.calls number)

-- an entry of this kind does what the call means
abbrev pub MayCall : Setting → CallText → CallSite → (number : ℕ) → EntryLists → EntryKind → Type 0
MayCall t c slot number y Ordinary = MayCallOrdinary t c number y
MayCall t c slot number y Scalar = MayCallScalar t c number y
MayCall t c slot number y N = MayCallVariant t c slot number y
MayCall t c slot number y M = MayCallVariant t c slot number y
MayCall t c slot number y Chunk = ⊥
MayCall t c slot number y Rest = ⊥

-- the entry that a slot calls
pub record IsRightCall (t : Setting) (c : CallText) (slot : CallSite) (place : ℕ) : Type 0 where
  pub number : ℕ
  pub target : slice_get t.site.entry.targets place ≡ Some number
  pub entry : EntryLists
  pub is : slice_get t.site.entries number ≡ Some entry
  pub may : MayCall t c slot number entry entry.kind

-- the slots of the running code are these calls, in their order
abbrev pub CallsAreRight : Setting → List CallText → Type 0
CallsAreRight t cs = (place : ℕ) (c : CallText) (slot : CallSite) → slice_get cs place ≡ Some c →
    slice_get t.site.code.routine.slots place ≡ Some slot → IsRightCall t c slot place

-- calls reach no further than their arguments: what makes lanes independent of one another
abbrev pub CallsAreLocal : Context → List CallText → Type 0
CallsAreLocal context cs = (c : CallText) → Contains cs c → IsLocalCall (types_called c) (result_called c) context.arrays (scalar_call context c.callee)

-- a call in the midst of a run does what it does from its memory alone, and its events stand behind those before it
abbrev pub CallsAreUniform : Context → Type 0
CallsAreUniform c = (id : NameId) (ds : List Datum) (w : World) → c.call id ds w ≡ behind_events w.events (scalar_call c id ds w.memory)

-- ---- objects

-- an object that a text names is an array of its type
pub record IsArrayOf (t : Setting) (array : ℕ) (ty : Ty) (is_array fixed : Bool) : Type 0 where
  pub there : array < length t.context.arrays
  pub elements : (array_at t.context.arrays array).ty ≡ ty
  pub const : (array_at t.context.arrays array).fixed ≡ fixed
  pub scalar : is_array ≡ false → (array_at t.context.arrays array).length ≡ 1

-- The arrays of the setting are those that a text of this definition names, and they are few and short enough for pointers.
pub record HasObjects (d : Definition) (ids : List NameId) (t : Setting) : Type 0 where
  pub numbers : (id : NameId) → t.context.array id ≡ t.array (text_of d.unit.texts id)
  pub objects : (id : NameId) (ty : Ty) (is_array fixed : Bool) → Contains ids id → (first_point d).scope.file id ≡ Some (an_object ty is_array fixed) →
      IsArrayOf t (t.context.array id) ty is_array fixed
  pub few : length t.context.arrays ≤ 2 ^ 31
  pub short : (a : ℕ) → (array_at t.context.arrays a).length ≤ 2 ^ 31

-- the machine has the program's arrays and its limit of turns
pub record IsMachine (t : Setting) : Type 0 where
  pub extents : t.site.arrays ≡ map extent_of t.context.arrays
  pub turns : t.site.turns ≡ t.context.turns
  pub limit : IsTurnLimit t.site.turns

-- ---- the running code

-- what the body of a definition means there
abbrev pub body_value : Setting → Definition → List Datum → Cells → Value
body_value t d ds m =
    ended d.function.result (run t.context (first_point d) d.body (record { variables = first_variables ds; world = record { memory = m; events = [] } }))

-- the machine runs the object's code c, linked, as this entry, which is no body of a simd loop
pub record RunsCode (y : Symbols) (c : Listing) (t : Setting) (entry : ℕ) : Type 0 where
  pub code : IsLinked (λ n. t.array (unwrap_or (slice_get y.objects n) [])) c t.site.code
  pub no_body : t.bodies.is_body entry ≡ false
