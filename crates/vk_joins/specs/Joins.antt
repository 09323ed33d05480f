-- When an image joins objects.
use Rattle.std.specs.Prelude.{◌≡◌, ◌⊎◌, ℕ, ◌+◌, ◌==◌, Bool, true, false, cond, List, [], ◌∷◌, ◌++◌, flat_map, length, slice_get, unwrap_or, is_some, position, Option, Some, None, codes, bytes_eq, Contains}
use Rattle.std.specs.Option.{option_and_then}
use Rattle.vk_kinds.specs.declared.kinds.Param.{Param}
use Rattle.vk_kinds.specs.Sizes.{SignatureTree}
use Rattle.vk_meaning.specs.World.{Array}
use Rattle.vk_code.specs.Listing.{CallSite, Listing, LoopBody, own, numbered, SimdSite, numbered_code}
use Rattle.vk_object.specs.declared.tables.EntryKind.{EntryKind}
use Rattle.vk_object.specs.declared.tables.EntryKind.TheVariants.{Ordinary, Scalar, N, M, Chunk, Rest}
use Rattle.vk_object.specs.declared.tables.LoopTargets.{LoopTargets}
use Rattle.vk_object.specs.Objects.{CodeLists, FunctionLists, ObjectLists}
use Rattle.vk_object.specs.Tables.{ArrayLists, EntryLists, Tables}
use Rattle.vk_agree.specs.Agree.{IsEntry, loop_text, variant_text}
use Rattle.vk_agree.specs.Units.{first_of}
use Rattle.vk_joins.specs.Choice.{Goal, Candidate, variants_of, candidates, at_lanes, IsChoice, loop_lanes}
use Rattle.vk_joins.specs.Codes.{callee_name, symbols_of}
use Rattle.vk_joins.specs.Linked.{IsLinked}
use Rattle.vk_joins.specs.Tables.{Data, array_if_named, data_in_object, symbol_of, words_of}

abbrev pub goal_of : Tables → Goal
goal_of image = record { isa = image.isa; vl = image.vl }

-- ---- arrays

abbrev pub array_of_row : ArrayLists → Array
array_of_row r = record { text = r.text; ty = r.ty; fixed = r.fixed; length = r.length; given = words_of r.elements }

abbrev pub row_named : (text : List ℕ) → ArrayLists → Option Array
row_named text r = array_if_named text (array_of_row r)

abbrev pub array_in_image : Tables → (text : List ℕ) → Option Array
array_in_image image text = first_of (row_named text) image.arrays

abbrev pub array_where_defined : Data → Option Array
array_where_defined d = cond d.defined (Some d.array) None

-- the array that an object defines under this name
abbrev pub array_defined_in : ObjectLists → (text : List ℕ) → Option Array
array_defined_in o text = option_and_then array_where_defined (data_in_object o text)

-- that of the first object that defines one
abbrev pub defined_array : List ObjectLists → (text : List ℕ) → Option Array
defined_array os text = first_of (λ o. array_defined_in o text) os

-- the number of the array with this name
abbrev pub array_number : Tables → (text : List ℕ) → ℕ
array_number image text = unwrap_or (position (λ (r : ArrayLists). bytes_eq r.text text) image.arrays) (length image.arrays)

-- ---- codes

-- what a code is made for: a function, the body of one of its simd loops, or one of its directives
pub data Part : Type 0 where
  scalar : Part
  body : (loop : ℕ) → Part
  lanes : (directive : ℕ) → Part

-- a code of a function that an object defines
pub record Made : Type 0 where
  pub object : ObjectLists
  pub row : FunctionLists
  pub part : Part
  pub code : Listing

-- the body of a loop has no loops
abbrev pub made_body : ObjectLists → FunctionLists → (loop : ℕ) → LoopBody → List Made
made_body o r k (own c) = record { object = o; row = r; part = body k; code = record { routine = c; loops = [] } } ∷ []
made_body o r k (numbered number) = []

abbrev pub made_bodies : ObjectLists → FunctionLists → (loop : ℕ) → List SimdSite → List Made
made_bodies o r k [] = []
made_bodies o r k (l ∷ ls) = made_body o r k l.body ++ made_bodies o r (k + 1) ls

abbrev pub made_lanes : ObjectLists → FunctionLists → (directive : ℕ) → List Listing → List Made
made_lanes o r d [] = []
made_lanes o r d (c ∷ cs) = record { object = o; row = r; part = lanes d; code = c } ∷ made_lanes o r (d + 1) cs

-- the codes of a function: its scalar code, the bodies of its simd loops, the codes of its directives
abbrev pub made_codes : ObjectLists → FunctionLists → Option CodeLists → List Made
made_codes o r None = []
made_codes o r (Some c) =
    record { object = o; row = r; part = scalar; code = c.scalar } ∷ (made_bodies o r 0 c.scalar.loops ++ made_lanes o r 0 c.lanes)

-- those of the defined functions, in the order of objects and functions
abbrev pub made_in : List ObjectLists → List Made
made_in os = flat_map (λ (o : ObjectLists). flat_map (λ (r : FunctionLists). made_codes o r r.codes) o.functions) os

-- a loop of an image names the code of its body
pub record NamesBody (os : List ObjectLists) (m : Made) (loop : ℕ) (site : SimdSite) : Type 0 where
  pub number : ℕ
  pub names : numbered_code site.body ≡ Some number
  pub of : Made
  pub is : slice_get (made_in os) number ≡ Some of
  pub row : of.row ≡ m.row
  pub part : of.part ≡ body loop

-- the number of the array that an object of this number is
abbrev pub array_of_object : Tables → ObjectLists → (object : ℕ) → ℕ
array_of_object image o n = array_number image (unwrap_or (slice_get (symbols_of o).objects n) [])

pub record IsLinkedCode (os : List ObjectLists) (image : Tables) (m : Made) (c : Listing) : Type 0 where
  pub linked : IsLinked (array_of_object image m.object) m.code c
  pub bodies : (k : ℕ) (site : SimdSite) → slice_get c.loops k ≡ Some site → NamesBody os m k site

-- ---- entries

-- an entry that an image is to have; the lanes of a chunk are chosen with its calls
pub record Planned : Type 0 where
  pub text : List ℕ
  pub kind : EntryKind
  pub lane_count : Option ℕ
  pub made : Made
  pub params : List Param

abbrev pub kind_of_scalar : List SignatureTree → EntryKind
kind_of_scalar [] = Ordinary
kind_of_scalar (s ∷ ss) = Scalar

abbrev pub kind_of_variant : (masked : Bool) → EntryKind
kind_of_variant masked = cond masked M N

-- the entry of a variant
abbrev pub variant_plan : Made → (text : List ℕ) → Candidate → Planned
variant_plan m text c = record {
  text = variant_text c.length c.signature.params text;
  kind = kind_of_variant c.length.masked;
  lane_count = Some c.lanes;
  made = m;
  params = c.signature.params;
}

-- where it is one of this directive
abbrev pub plan_variant : Made → (text : List ℕ) → (directive : ℕ) → Candidate → List Planned
plan_variant m text d c = cond (c.directive == d) (variant_plan m text c ∷ []) []

-- the name of a code's function
abbrev pub function_of : Made → List ℕ
function_of m = symbol_of m.object m.row.symbol

abbrev pub planned_of : Goal → Made → Part → List Planned
planned_of goal m scalar = record { text = function_of m; kind = kind_of_scalar m.row.directives; lane_count = Some 1; made = m; params = [] } ∷ []
planned_of goal m (body k) =
    record { text = loop_text (function_of m) (k + 1); kind = Chunk; lane_count = None; made = m; params = [] }
    ∷ record { text = loop_text (function_of m) (k + 1); kind = Rest; lane_count = Some 1; made = m; params = [] }
    ∷ []
planned_of goal m (lanes d) = flat_map (plan_variant m (function_of m) d) (variants_of goal m.object m.row)

-- each function's scalar code, two bodies for each simd loop, and each variant whose letter the image uses and whose number of
-- lanes is defined
abbrev pub planned : Goal → List ObjectLists → List Planned
planned goal os = flat_map (λ (m : Made). planned_of goal m m.part) (made_in os)

abbrev pub HasLanes : Option ℕ → ℕ → Type 0
HasLanes None n = Unit {0}
HasLanes (Some m) n = n ≡ m

pub record IsPlanned (os : List ObjectLists) (p : Planned) (x : EntryLists) : Type 0 where
  pub text : x.text ≡ p.text
  pub kind : x.kind ≡ p.kind
  pub lane_count : HasLanes p.lane_count x.lanes
  pub code : slice_get (made_in os) x.code ≡ Some p.made
  pub params : x.params ≡ p.params

-- an entry of the image, and the plan that it is made by
pub record IsPlannedEntry (os : List ObjectLists) (image : Tables) (e : ℕ) (x : EntryLists) (p : Planned) : Type 0 where
  pub entry : IsEntry image e x
  pub among : Contains (planned (goal_of image) os) p
  pub is : IsPlanned os p x

-- ---- targets

-- the scalar code of the function with this name
pub record IsScalarEntry (text : List ℕ) (y : EntryLists) : Type 0 where
  pub named : y.text ≡ text
  pub kind : (y.kind ≡ Ordinary) ⊎ (y.kind ≡ Scalar)

-- this variant of it
pub record IsVariantEntry (text : List ℕ) (c : Candidate) (y : EntryLists) : Type 0 where
  pub named : y.text ≡ variant_text c.length c.signature.params text
  pub kind : y.kind ≡ kind_of_variant c.length.masked
  pub lane_count : y.lanes ≡ c.lanes
  pub params : y.params ≡ c.signature.params

abbrev pub IsTargetBy : (text : List ℕ) → Option Candidate → EntryLists → Type 0
IsTargetBy text None y = IsScalarEntry text y
IsTargetBy text (Some c) y = IsVariantEntry text c y

-- all lanes run, wherever the code itself is called
abbrev pub is_whole : EntryKind → Bool
is_whole Ordinary = false
is_whole Scalar = false
is_whole N = true
is_whole M = false
is_whole Chunk = true
is_whole Rest = false

-- the candidates of a slot in an entry
abbrev pub choices : Goal → Made → EntryLists → CallSite → List Candidate
choices goal m x slot = at_lanes x.lanes (candidates goal m.object (is_whole x.kind) slot)

abbrev pub IsSomeOf : List Candidate → Option Candidate → Type 0
IsSomeOf cs None = Unit {0}
IsSomeOf cs (Some c) = Contains cs c

-- the name of the function that a slot of a code calls
abbrev pub callee_of : Made → CallSite → List ℕ
callee_of m slot = callee_name (symbols_of m.object) slot

-- the scalar code, or one of the candidates
pub record IsTarget (goal : Goal) (m : Made) (x : EntryLists) (slot : CallSite) (y : EntryLists) : Type 0 where
  pub by : Option Candidate
  pub among : IsSomeOf (choices goal m x slot) by
  pub is : IsTargetBy (callee_of m slot) by y

-- an entry's slot, and the entry that it calls
pub record IsSlotTarget (os : List ObjectLists) (image : Tables) (x : EntryLists) (p : Planned) (slot : CallSite) (y : EntryLists) : Type 0 where
  pub number : ℕ
  pub planned : IsPlannedEntry os image number x p
  pub place : ℕ
  pub slot_is : slice_get p.made.code.routine.slots place ≡ Some slot
  pub target : ℕ
  pub target_is : slice_get x.targets place ≡ Some target
  pub entry : IsEntry image target y

-- ---- the image

-- the entry of the scalar code of `main`
abbrev pub IsMain : Tables → Option ℕ → Type 0
IsMain image None = Unit {0}
IsMain image (Some e) = (x : EntryLists) → IsEntry image e x → IsScalarEntry (codes "main") x

-- the bodies of a function's simd loop
pub record AreLoopEntries (image : Tables) (text : List ℕ) (loop : ℕ) (t : LoopTargets) : Type 0 where
  pub chunk : (c : EntryLists) → IsEntry image t.chunk c → (c.kind ≡ Chunk) × (c.text ≡ loop_text text (loop + 1))
  pub rest : (c : EntryLists) → IsEntry image t.rest c → (c.kind ≡ Rest) × (c.text ≡ loop_text text (loop + 1))

pub record Joins (image : Tables) (os : List ObjectLists) : Type 0 where
  pub target : (o : ObjectLists) → Contains os o → image.target ≡ o.target
  -- the arrays are the defined objects, each defined by one object
  pub arrays : (text : List ℕ) → array_in_image image text ≡ defined_array os text
  pub array_once : (i j : ℕ) (o p : ObjectLists) → slice_get os i ≡ Some o → slice_get os j ≡ Some p → (text : List ℕ) →
      is_some (array_defined_in o text) ≡ true → is_some (array_defined_in p text) ≡ true → i ≡ j
  pub main : IsMain image image.main
  -- the entries
  pub all : (p : Planned) → Contains (planned (goal_of image) os) p → (e : ℕ) × ((x : EntryLists) × IsPlannedEntry os image e x p)
  pub only : (e : ℕ) (x : EntryLists) → IsEntry image e x → (p : Planned) × IsPlannedEntry os image e x p
  pub once : (e e' : ℕ) (x x' : EntryLists) (p : Planned) → IsPlannedEntry os image e x p → IsPlannedEntry os image e' x' p → e ≡ e'
  pub loops : (e k : ℕ) (x : EntryLists) (t : LoopTargets) → IsEntry image e x → slice_get x.loops k ≡ Some t → AreLoopEntries image x.text k t
  -- the codes
  pub code_count : length image.codes ≡ length (made_in os)
  pub linked_codes : (n : ℕ) (m : Made) (c : Listing) → slice_get (made_in os) n ≡ Some m → slice_get image.codes n ≡ Some c → IsLinkedCode os image m c
  -- the targets
  pub targets : (x y : EntryLists) (p : Planned) (slot : CallSite) → IsSlotTarget os image x p slot y → IsTarget (goal_of image) p.made x slot y

-- ---- the choice

-- a slot's target is chosen
pub record IsChosenTarget (goal : Goal) (m : Made) (x : EntryLists) (slot : CallSite) (y : EntryLists) : Type 0 where
  pub by : Option Candidate
  pub choice : IsChoice (choices goal m x slot) by
  pub is : IsTargetBy (callee_of m slot) by y

abbrev pub slots_in : LoopBody → List CallSite
slots_in (own c) = c.slots
slots_in (numbered number) = []

-- targets are the choices, and simd loops have the stated numbers of lanes
pub record IsChosen (image : Tables) (os : List ObjectLists) : Type 0 where
  pub targets : (x y : EntryLists) (p : Planned) (slot : CallSite) → IsSlotTarget os image x p slot y → IsChosenTarget (goal_of image) p.made x slot y
  pub loops : (e k : ℕ) (x c : EntryLists) (p : Planned) (site : SimdSite) (t : LoopTargets) → IsPlannedEntry os image e x p →
      slice_get p.made.code.loops k ≡ Some site → slice_get x.loops k ≡ Some t → IsEntry image t.chunk c →
      c.lanes ≡ loop_lanes (goal_of image) p.made.object site.simdlen (slots_in site.body)
