-- What the makers of codes promise.
use Rattle.std.specs.Prelude.{◌≡◌, ◌≢◌, ◌<◌, ℕ, take, true, List, [], ◌∷◌, map, length, slice_get, unwrap_or, Some, None, ℤ}
use Rattle.vk_kinds.specs.Sizes.{SignatureTree}
use Rattle.vk_kinds.specs.Types.{ctype_number}
use Rattle.vk_rules_book.specs.Scopes.{text_of}
use Rattle.vk_meaning.specs.World.{printed}
use Rattle.vk_meaning.specs.Programs.{Definition, first_point}
use Rattle.vk_code.specs.Listing.{Listing, Routine, SimdSite, own}
use Rattle.vk_code.specs.Valid.{IsValid, is_good_routine}
use Rattle.vk_object.specs.Machine.{enters}
use Rattle.vk_object.specs.Objects.{CodeLists}
use Rattle.vk_lane.specs.Runs.{RunsAs, RunsOnLanes}
use Rattle.vk_sites.specs.Bounds.{IsShort, body_size, function_size, own_loops}
use Rattle.vk_sites.specs.Loops.{LoopText}
use Rattle.vk_sites.specs.Objects.{objects_of}
use Rattle.vk_sites.specs.Shapes.{loop_view}
use Rattle.vk_agree.specs.Units.{kinds_of, param_types}
use Rattle.vk_joins.specs.Codes.{AreSame, IsCodeOf, Symbols, calls_made, calls_told, lane_manner, lanes, names_in_instrs, names_made, own_calls, plain}
use Rattle.vk_joins.specs.Linked.{IsLinked}
use Rattle.vk_joins.specs.Links.{body_calls, loop_calls}
use Rattle.vk_promises.specs.Codes.{AreGoodBodies, HasTypesOf, IsClosed, IsOpenSite, given_types}
use Rattle.vk_promises.specs.Loops.{LoopIsRight, RunsChunk, RunsRest}
use Rattle.vk_promises.specs.Settings.{CallsAreLocal, CallsAreRight, CallsAreUniform, HasObjects, IsMachine, RunsCode, Setting, body_value}

-- ---- settings of a function

-- the setting of this definition, whose code c runs as this entry: its calls and its simd loops are right
pub record IsSetting (d : Definition) (y : Symbols) (c : Listing) (t : Setting) (entry : ℕ) : Type 0 where
  pub machine : IsMachine t
  pub objects : HasObjects d (objects_of (first_point d) d.body) t
  pub text : t.context.text ≡ text_of d.unit.texts d.function.name
  pub result : t.context.result ≡ d.function.result
  pub uniform : CallsAreUniform t.context
  pub runs : RunsCode y c t entry
  pub calls : CallsAreRight t (own_calls d.unit (body_calls d))
  pub loops : (loop : ℕ) (l : LoopText) → slice_get (own_loops d) loop ≡ Some l → LoopIsRight t t.context.text l loop
  -- no body is called for a printed number
  pub prints : (other : ℕ) (z : ℤ) → t.bodies.calls other (printed z) ≡ 0

-- the called functions have directives
abbrev pub IsLocal : Definition → Setting → Type 0
IsLocal d t = CallsAreLocal t.context (own_calls d.unit (body_calls d))

-- ---- the scalar code of a function

-- Its loops are still open; what is promised of the whole is promised of the closed code. The bases of the loops are addressed here
-- too, so the code alone names all objects of the text.
pub record IsScalarCode (y : Symbols) (d : Definition) (signatures : List SignatureTree) (c : Listing) : Type 0 where
  pub calls : calls_told y c.routine ≡ calls_made d.unit plain (first_point d) d.body
  pub names : AreSame (names_in_instrs y c.routine.instrs) (names_made d.unit (first_point d) d.body)
  pub valid : (closed : Listing) → IsClosed (own_loops d) c closed → AreGoodBodies y (own_loops d) closed → IsValid y.around closed
  pub types : HasTypesOf d c.routine
  pub short : IsShort c.routine (function_size d)
  pub lane_code : signatures ≢ [] → c.routine.lane_code ≡ true
  pub site_count : length c.loops ≡ length (own_loops d)
  pub sites : (loop : ℕ) (l : LoopText) (s : SimdSite) → slice_get (own_loops d) loop ≡ Some l → slice_get c.loops loop ≡ Some s → IsOpenSite c.routine l s
  -- without directives it runs as the function does; with directives it is lane code for one lane
  pub runs : signatures ≡ [] → (closed : Listing) → IsClosed (own_loops d) c closed → (t : Setting) (entry : ℕ) → IsSetting d y closed t entry →
      t.site.entry.lanes ≡ 1 → RunsAs t.context.arrays t.bodies (param_types d) (body_value t d) (enters entry t.site)
  pub runs_on_lane : signatures ≢ [] → (closed : Listing) → IsClosed (own_loops d) c closed → (t : Setting) (entry : ℕ) → IsSetting d y closed t entry →
      IsLocal d t → t.site.entry.lanes ≡ 1 → RunsOnLanes t.context.arrays t.bodies (param_types d) [] (body_value t d) 1 (enters entry t.site)

-- ---- the code of a directive, for every number of lanes

pub record IsLaneCode (y : Symbols) (d : Definition) (s : SignatureTree) (c : Listing) : Type 0 where
  pub is : IsCodeOf y d.unit (lane_manner d s) (first_point d) d.body c
  pub types : HasTypesOf d c.routine
  pub short : IsShort c.routine (function_size d)
  pub lane_code : c.routine.lane_code ≡ true
  pub runs : (t : Setting) (entry : ℕ) → IsSetting d y c t entry → IsLocal d t → 0 < t.site.entry.lanes →
      RunsOnLanes t.context.arrays t.bodies (param_types d) (kinds_of s) (body_value t d) t.site.entry.lanes (enters entry t.site)

-- ---- the body of a simd loop

-- the setting of the body, whose code c runs as this entry
pub record IsBodySetting (d : Definition) (l : LoopText) (y : Symbols) (c : Routine) (t : Setting) (entry : ℕ) : Type 0 where
  pub machine : IsMachine t
  pub objects : HasObjects d (objects_of l.inside l.body) t
  pub uniform : CallsAreUniform t.context
  pub code : IsLinked (λ n. t.array (unwrap_or (slice_get y.objects n) [])) (record { routine = c; loops = [] }) t.site.code
  pub calls : CallsAreRight t (own_calls d.unit (loop_calls l))
  pub local : CallsAreLocal t.context (own_calls d.unit (loop_calls l))
  pub body : t.bodies.is_body entry ≡ true

pub record IsBodyCode (y : Symbols) (d : Definition) (l : LoopText) (c : Routine) : Type 0 where
  pub calls : calls_told y c ≡ calls_made d.unit (lanes (loop_view l)) l.inside l.body
  pub names : AreSame (names_in_instrs y c.instrs) (names_made d.unit l.inside l.body)
  pub short : IsShort c (body_size l.body)
  pub lane_code : c.lane_code ≡ true
  pub no_loops : c.loops ≡ 0
  pub no_result : c.result ≡ None
  pub good : is_good_routine y.around c ≡ true
  pub params : c.params ≡ length (given_types l)
  pub types : map ctype_number (take c.params c.regs) ≡ map ctype_number (given_types l)
  pub chunk : (t : Setting) (entry : ℕ) → IsBodySetting d l y c t entry → 0 < t.site.entry.lanes →
      RunsChunk t.context t.bodies l t.site.entry.lanes entry (enters entry t.site)
  pub rest : (t : Setting) (entry : ℕ) → IsBodySetting d l y c t entry → t.site.entry.lanes ≡ 1 →
      RunsRest t.context t.bodies l entry (enters entry t.site)

-- ---- the codes of a function

-- the bodies that were put in place are those that the maker of bodies made
abbrev pub AllBodies : Symbols → Definition → Listing → Type 0
AllBodies y d closed = (loop : ℕ) (l : LoopText) (u : SimdSite) (body : Routine) → slice_get (own_loops d) loop ≡ Some l →
    slice_get closed.loops loop ≡ Some u → u.body ≡ own body → IsBodyCode y d l body

-- a code for each directive
abbrev pub AllLaneCodes : Symbols → Definition → List SignatureTree → List Listing → Type 0
AllLaneCodes y d [] [] = Unit {0}
AllLaneCodes y d [] (c ∷ cs) = ⊥
AllLaneCodes y d (s ∷ ss) [] = ⊥
AllLaneCodes y d (s ∷ ss) (c ∷ cs) = IsLaneCode y d s c × AllLaneCodes y d ss cs

-- the makers' codes, the scalar one with its loops closed
pub record AreMade (y : Symbols) (d : Definition) (signatures : List SignatureTree) (codes : CodeLists) : Type 0 where
  pub open_code : Listing
  pub scalar : IsScalarCode y d signatures open_code
  pub closed : IsClosed (own_loops d) open_code codes.scalar
  pub bodies : AllBodies y d codes.scalar
  pub directives : AllLaneCodes y d signatures codes.lanes
