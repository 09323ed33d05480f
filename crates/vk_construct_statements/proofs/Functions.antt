-- Whole functions.
use Rattle.std.proofs.Common.{arith, sym, ◌≡◌, ◌≢◌, ℕ, ◌+◌, ◌<◌, ◌==◌, nat_lt, Bool, true, false, ◌&&◌, List, length, Option, Some, None, is_some, refl, subst, ap, ◌∙◌, Ok}
use Rattle.std.specs.List.{AllByRecursion}
use Rattle.vk_types.specs.declared.types.Ty.{Ty}
use Rattle.vk_kinds.specs.declared.heads.CType.{CType}
use Rattle.vk_kinds.specs.declared.heads.CType.TheVariants.{Void, Int, Ptr}
use Rattle.vk_ast.specs.declared.items.ParamDecl.{ParamDecl}
use Rattle.vk_rules_book.specs.Scopes.{Scope}
use Rattle.vk_rules_book.specs.Rules.{Subject}
use Rattle.vk_meaning.specs.World.{Memory as Cells}
use Rattle.vk_meaning.specs.Data.{Datum, Value}
use Rattle.vk_meaning.specs.Expressions.{Context}
use Rattle.vk_meaning.specs.Programs.{Definition, arrays_of, definition_of}
use Rattle.vk_meaning.specs.Meaning.{call_within, called_where_defined, ended, first_variables, means}
use Rattle.vk_meaning.specs.Lanes.{AreApart, AreTyped, Words, arguments_of}
use Rattle.vk_object.specs.Memory.{Memory}
use Rattle.vk_object.specs.Machine.{Site, enters}
use Rattle.vk_lane.specs.Runs.{Bodies, IsLaneRun, IsSameRun, one_lane}
use Rattle.vk_lane.specs.Places.{Place, Share, lanes_of}
use Rattle.vk_lane.specs.Pieces.{Does}
use Rattle.vk_lane.specs.Writes.{Writes}
use Rattle.vk_lane.specs.Entries.{IsWhole, LaneCall, first_share, place_of}
use Rattle.vk_lane.proofs.Rules.{does_given, does_weaken}
use Rattle.vk_lane_runs.specs.Sites.{IsCodeSite, alone_call, lanes_call}
use Rattle.vk_lane_runs.proofs.Closing.{lane_run, lanes_are_place}
use Rattle.vk_lane_runs.proofs.Alone.{alone_is_place, alone_run}
use Rattle.vk_construct.specs.Computes.{Holds, Table}
use Rattle.vk_construct.specs.Adds.{Adds, HasType, HasWritten, Written}
use Rattle.vk_construct.specs.Trees.{param_table, types_in}
use Rattle.vk_construct.proofs.Adding.{adds_then, adds_weaken, type_there}
use Rattle.vk_construct_whole.specs.Wholes.{IsFinished, IsMachineOf, body_scope, own_context, param_types, started}
use Rattle.vk_construct_whole.proofs.Definitions.{all_named, scope_count, scope_types}
use Rattle.vk_construct_whole.proofs.Returning.{code_site, finished, first_world, holds_first}
use Rattle.vk_construct_statements.specs.Follows.{body_masks}
use Rattle.vk_construct_statements.specs.Statements.{AddsFunction, AddsStatement, HasRun, Meets, body_effect}
use Rattle.vk_construct_statements.proofs.Bodies.{body_ends, body_idle, void_ends, void_idle}
use Rattle.vk_construct_statements.proofs.Flow.{Statement}

-- ---- prologue, body and epilogue

-- three masks are those of the call; behind the body, lanes that did not return give 0
pub flow_function : (c0 c1 c2 c3 c4 c5 : Written) (t : Ty) (r : ℕ) (tb tbl : Table) (effect : Statement) (n depth : ℕ) → HasType c5 r t → Adds c0 c1 (Meets 1 0 0) 1 depth → Adds c1 c2 (Meets 2 0 0) 1 depth → Adds c2 c3 (Meets 3 0 0) 1 depth →
    AddsStatement c3 c4 (record { reg = r; ty = Int t }) tb tbl effect body_masks n depth → Adds c4 c5 (λ q. Writes 3 r (λ j h. Ok 0)) 1 depth → AddsFunction c0 c5 tb (Int t) (Some r) effect (n + 4) depth
flow_function c0 c1 c2 c3 c4 c5 t r tb tbl effect n depth tr p1 p2 p3 p4 p5 =
    adds_weaken c0 c5 _ _ (1 + 1 + 1 + n + 1) (n + 4) depth
    (adds_then c0 c4 c5 _ _ (1 + 1 + 1 + n) 1 depth (adds_then c0 c3 c4 _ _ (1 + 1 + 1) n depth (adds_then c0 c2 c3 _ _ (1 + 1) 1 depth (adds_then c0 c1 c2 _ _ 1 1 depth p1 p2) p3) p4) p5) (omega arith)
    (λ q hw j h h' s s' x. let y4 = x.1 in let y3 = y4.1 in let y2 = y3.1 in record {
      ends = λ st on u hold. body_ends (place_of q) t r tb tbl (effect q.context) j h y2.0 y3.0 y4.0 x.0 h' s' (type_there q c5 r (Int t) hw tr) st y2.1 y2.2 y3.2 y4.2 x.2 u on hold;
      idle = λ st on. body_idle (place_of q) t r tb tbl (effect q.context) j h y2.0 y3.0 y4.0 x.0 h' s' (type_there q c5 r (Int t) hw tr) st y2.1 y2.2 y3.2 y4.2 x.2 on;
    })

pub flow_procedure : (c0 c1 c2 c3 c4 : Written) (r : ℕ) (tb tbl : Table) (effect : Statement) (n depth : ℕ) → Adds c0 c1 (Meets 1 0 0) 1 depth → Adds c1 c2 (Meets 2 0 0) 1 depth → Adds c2 c3 (Meets 3 0 0) 1 depth →
    AddsStatement c3 c4 (record { reg = r; ty = Void }) tb tbl effect body_masks n depth → AddsFunction c0 c4 tb Void None effect (n + 3) depth
flow_procedure c0 c1 c2 c3 c4 r tb tbl effect n depth p1 p2 p3 p4 =
    adds_weaken c0 c4 _ _ (1 + 1 + 1 + n) (n + 3) depth (adds_then c0 c3 c4 _ _ (1 + 1 + 1) n depth (adds_then c0 c2 c3 _ _ (1 + 1) 1 depth (adds_then c0 c1 c2 _ _ 1 1 depth p1 p2) p3) p4) (omega arith)
    (λ q hw j h h' s s' x. let y3 = x.1 in let y2 = y3.1 in record {
      ends = λ st on u hold. void_ends (place_of q) r tb tbl (effect q.context) j h y2.0 y3.0 x.0 h' st y2.1 y2.2 y3.2 x.2 u on hold;
      idle = λ st on. void_idle (place_of q) r tb tbl (effect q.context) j h y2.0 y3.0 x.0 h' st y2.1 y2.2 y3.2 x.2 on;
    })

-- ---- calls

-- what the scalar function gives
abbrev pub value_of_body : Statement → CType → Context → List Datum → Cells → Value
value_of_body effect rt c ds m = ended rt (effect c (record { variables = first_variables ds; world = first_world m }))

does_function : (q : LaneCall) (mask : ℕ → Bool) (scope : Scope) (ts : List CType) (effect : Statement) (rt : CType) (result : Option ℕ) (w : Written) (size depth : ℕ) →
    ((j : ℕ) → j < q.site.entry.lanes → (place_of q).active j ≡ mask j) → types_in scope ≡ ts → length scope.inner ≡ length ts → q.site.code.routine.params ≡ length ts → HasWritten q w → IsFinished q.site.code.routine w result →
    AddsFunction (started ts) w (param_table scope) rt result effect size depth →
    Does (place_of q) (λ j h. h ≡ first_share q.site mask q.words q.memory.cells j) q.site.code.routine.instrs
    (λ j h h'. IsWhole rt q.site.code.routine.result (place_of q).active (λ k. value_of_body effect rt q.context (arguments_of ts q.words k) q.memory.cells) j h')
does_function q mask scope ts effect rt result w size depth act et el ep hw fin a =
    subst (λ l. Does x First l Whole) (sym (fin.instrs ∙ a.instrs))
    (subst (λ o. Does x First a.piece (λ j h h'. IsWhole rt o x.active (λ k. value_of_body effect rt q.context (arguments_of ts q.words k) q.memory.cells) j h')) (sym fin.result)
    (does_weaken x First First _ _ a.piece (does_given x First _ a.piece (a.does q hw)) (λ j h s p. p) (λ j h h' s s' p y. whole j h h' y.0 p y.2)))
  where
    x : Place
    x = place_of q

    First : ℕ → Share → Type 0
    First j h = h ≡ first_share q.site mask q.words q.memory.cells j

    Whole : ℕ → Share → Share → Type 0
    Whole j h h' = IsWhole rt q.site.code.routine.result x.active (λ k. value_of_body effect rt q.context (arguments_of ts q.words k) q.memory.cells) j h'

    on_first : (j : ℕ) (b : Bool) → j < q.site.entry.lanes → x.active j ≡ b → (nat_lt j q.site.entry.lanes && (0 == 0) && mask j) ≡ b
    on_first j b lj e' = ap (λ p. p && (0 == 0) && mask j) (yes j q.site.entry.lanes lj) ∙ (sym (act j lj) ∙ e')
      where
        yes : (c d : ℕ) → c < d → nat_lt c d ≡ true
        yes c d h = grind (arith, h)

    whole : (j : ℕ) (h h' : Share) → j < lanes_of x → First j h → HasRun (param_table scope) rt result (effect q.context) j h h' →
        IsWhole rt result x.active (λ k. value_of_body effect rt q.context (arguments_of ts q.words k) q.memory.cells) j h'
    whole j h h' lj p c = record {
      ends = λ on. c.ends (ap (λ (y : Share). y.lane.stop) p) (ap (λ (y : Share). y.lane.on 0) p ∙ on_first j true lj on) (record { variables = first_variables (arguments_of ts q.words j); world = first_world q.memory.cells })
          (subst (Holds (param_table scope) _) (sym p) (holds_first q.site ts scope mask q.words q.memory.cells j et el ep lj));
      idle = λ off. c.idle (ap (λ (y : Share). y.lane.stop) p) (ap (λ (y : Share). y.lane.on 0) p ∙ on_first j false lj off);
    }

pub function_on_lanes : (c : Context) (s : Site) (b : Bodies) (entry : ℕ) (scope : Scope) (ts : List CType) (effect : Statement) (rt : CType) (result : Option ℕ) (w : Written) (size depth : ℕ) (m : Memory) (mask : ℕ → Bool) (words : Words) (old : ℕ → ℕ) →
    types_in scope ≡ ts → length scope.inner ≡ length ts → AddsFunction (started ts) w (param_table scope) rt result effect size depth → IsFinished s.code.routine w result → IsMachineOf c s → 0 < s.entry.lanes → b.is_body entry ≡ false →
    ((to : Ty) (written : Bool) → rt ≢ Ptr to written) → AreTyped ts c.arrays s.entry.lanes words mask → AreApart ts c.arrays s.entry.lanes words mask → IsLaneRun c.arrays b ts (value_of_body effect rt c) s.entry.lanes mask words m old (enters entry s mask words m)
function_on_lanes c s b entry scope ts effect rt result w size depth m mask words old et el a fin mach some nobody plain ty apart =
    lane_run c s b entry ts rt (value_of_body effect rt c) m mask words old site some nobody plain ty apart
    (does_function (lanes_call c s b ts mask words m) mask scope ts effect rt result w size depth (λ j lj. ap (λ p. p && mask j) (yes j s.entry.lanes lj)) et el site.params
    (record { place = lanes_are_place c s b ts mask words m site ty apart; params = sym a.params; types = site.types; code = finished s.code.routine w result fin }) fin a)
  where
    site : IsCodeSite c s ts
    site = code_site c s ts a.types w result mach fin a.params a.regs

    yes : (i n : ℕ) → i < n → nat_lt i n ≡ true
    yes i n h = grind (arith, h)

pub function_alone : (c : Context) (s : Site) (b : Bodies) (entry : ℕ) (scope : Scope) (ts : List CType) (effect : Statement) (rt : CType) (result : Option ℕ) (w : Written) (size depth : ℕ) (m : Memory) (words : Words) →
    types_in scope ≡ ts → length scope.inner ≡ length ts → AddsFunction (started ts) w (param_table scope) rt result effect size depth → IsFinished s.code.routine w result → IsMachineOf c s → s.entry.lanes ≡ 1 → b.is_body entry ≡ false →
    ((to : Ty) (written : Bool) → rt ≢ Ptr to written) → AreTyped ts c.arrays 1 words one_lane → IsSameRun b m (value_of_body effect rt c (arguments_of ts words 0) m.cells) (enters entry s one_lane words m)
function_alone c s b entry scope ts effect rt result w size depth m words et el a fin mach single nobody plain ty =
    alone_run c s b entry ts rt (value_of_body effect rt c) m words site single nobody plain ty
    (does_function (alone_call c s b ts words m) one_lane scope ts effect rt result w size depth (λ j lj. refl) et el site.params
    (record { place = alone_is_place c s b ts words m site single ty; params = sym a.params; types = site.types; code = finished s.code.routine w result fin }) fin a)
  where
    site : IsCodeSite c s ts
    site = code_site c s ts a.types w result mach fin a.params a.regs

-- ---- the meaning of a call

pub means_body : (units : List Subject) (turns : ℕ) (text : List ℕ) (d : Definition) (ds : List Datum) (m : Cells) → definition_of units text ≡ Some d →
    means units turns text ds m ≡ value_of_body (body_effect d) d.function.result (own_context units turns d) ds m
means_body units turns text d ds m is = ap (λ o. called_where_defined units turns (call_within 31 units turns) o ds (first_world m)) is

pub definition_on_lanes : (units : List Subject) (turns : ℕ) (text : List ℕ) (d : Definition) (result : Option ℕ) (s : Site) (b : Bodies) (entry : ℕ) (w : Written) (size depth : ℕ) (m : Memory) (mask : ℕ → Bool) (words : Words) (old : ℕ → ℕ) →
    definition_of units text ≡ Some d → AllByRecursion (λ (p : ParamDecl). is_some p.name ≡ true) d.function.params → ((to : Ty) (written : Bool) → d.function.result ≢ Ptr to written) →
    AddsFunction (started (param_types d)) w (param_table (body_scope d)) d.function.result result (body_effect d) size depth → IsFinished s.code.routine w result → IsMachineOf (own_context units turns d) s → 0 < s.entry.lanes → b.is_body entry ≡ false →
    AreTyped (param_types d) (arrays_of units) s.entry.lanes words mask → AreApart (param_types d) (arrays_of units) s.entry.lanes words mask →
    IsLaneRun (arrays_of units) b (param_types d) (means units turns text) s.entry.lanes mask words m old (enters entry s mask words m)
definition_on_lanes units turns text d result s b entry w size depth m mask words old is named plain a fin mach some nobody ty apart =
    subst (λ f. IsLaneRun (arrays_of units) b (param_types d) f s.entry.lanes mask words m old (enters entry s mask words m)) (λ i ds cells. sym (means_body units turns text d ds cells is) i)
    (function_on_lanes (own_context units turns d) s b entry (body_scope d) (param_types d) (body_effect d) d.function.result result w size depth m mask words old
    (scope_types d (all_named d.function.params named)) (scope_count d (all_named d.function.params named)) a fin mach some nobody plain ty apart)

pub definition_alone : (units : List Subject) (turns : ℕ) (text : List ℕ) (d : Definition) (result : Option ℕ) (s : Site) (b : Bodies) (entry : ℕ) (w : Written) (size depth : ℕ) (m : Memory) (words : Words) →
    definition_of units text ≡ Some d → AllByRecursion (λ (p : ParamDecl). is_some p.name ≡ true) d.function.params → ((to : Ty) (written : Bool) → d.function.result ≢ Ptr to written) →
    AddsFunction (started (param_types d)) w (param_table (body_scope d)) d.function.result result (body_effect d) size depth → IsFinished s.code.routine w result → IsMachineOf (own_context units turns d) s → s.entry.lanes ≡ 1 → b.is_body entry ≡ false →
    AreTyped (param_types d) (arrays_of units) 1 words one_lane → IsSameRun b m (means units turns text (arguments_of (param_types d) words 0) m.cells) (enters entry s one_lane words m)
definition_alone units turns text d result s b entry w size depth m words is named plain a fin mach single nobody ty =
    subst (λ v. IsSameRun b m v (enters entry s one_lane words m)) (sym (means_body units turns text d (arguments_of (param_types d) words 0) m.cells is))
    (function_alone (own_context units turns d) s b entry (body_scope d) (param_types d) (body_effect d) d.function.result result w size depth m words
    (scope_types d (all_named d.function.params named)) (scope_count d (all_named d.function.params named)) a fin mach single nobody plain ty)
