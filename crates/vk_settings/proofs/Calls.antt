-- The calls of a code that an image runs are right.
use Rattle.std.proofs.Common.{◌≡◌, ℕ, ◌&&◌, not, Bool, true, false, List, [], ◌++◌, map, flat_map, slice_get, unwrap_or, Contains, Option, Some, None, refl, sym, ap, subst, ◌∙◌}
use Rattle.std.specs.List.{list_all}
use Rattle.std.specs.Option.{option_map}
use Rattle.std.proofs.lemmas.List.Folds.{list_all-append}
use Rattle.std.proofs.lemmas.List.Elements.{Contains-append_left}
use Rattle.std.proofs.lemmas.Option.{slice_get-map}
use Rattle.vk_kinds.specs.Sizes.{HeadTypes}
use Rattle.vk_rules_book.specs.Rules.{Subject}
use Rattle.vk_rules_book.specs.Scopes.{is_print, text_of}
use Rattle.vk_meaning.specs.Programs.{Definition, definition_of}
use Rattle.vk_code.specs.Listing.{CallSite, Listing, Routine}
use Rattle.vk_code.specs.Tests.{all_good, holds}
use Rattle.vk_code.specs.Valid.{IsValid, body_verdicts, has_callee, has_good_args, is_call_of, is_good_head, is_good_loop, is_good_slot, is_result}
use Rattle.vk_object.specs.declared.tables.EntryKind.{EntryKind}
use Rattle.vk_object.specs.Images.{calls_within, code_of, is_within}
use Rattle.vk_object.specs.Machine.{Site, entry_at, site_at}
use Rattle.vk_object.specs.Objects.{FunctionLists, ObjectLists, callee_of, names_of}
use Rattle.vk_object.specs.Tables.{EntryLists, Tables}
use Rattle.vk_runs.proofs.Reached.{all_at}
use Rattle.vk_sites.specs.Calls.{CallText}
use Rattle.vk_sites.specs.Loops.{LoopText}
use Rattle.vk_sites.specs.Bounds.{own_loops}
use Rattle.vk_agree.specs.Agree.{Agrees, AgreesWhereDefined, IsEntry, IsTurnLimit}
use Rattle.vk_agree.specs.Units.{IsAccepted, param_types}
use Rattle.vk_joins.specs.Carries.{Pair, objects_of, units_of}
use Rattle.vk_joins.specs.Codes.{Call, Manner, Symbols, call_made, call_told, callee_name, lanes, own_calls, plain, symbols_of}
use Rattle.vk_joins.specs.Joins.{IsLinkedCode, IsTarget, Planned, array_number, array_of_object, goal_of}
use Rattle.vk_joins.specs.Linked.{IsLinked}
use Rattle.vk_joins.specs.Links.{body_calls, callees_in, callees_of, loop_calls}
use Rattle.vk_joins.specs.Tables.{Declared, declared_in_unit, symbol_of}
use Rattle.vk_joins_laws.proofs.Images.{HasLanesOf, HasTarget, entry_lanes, entry_within, ordinary_calls, slot_target}
use Rattle.vk_joins_laws.proofs.Lists.{At, both_first, both_second, contains_map, get_unmap, kept}
use Rattle.vk_compose.proofs.Plans.{among}
use Rattle.vk_promises.specs.Places.{IsLinkedCall, TellsOf, setting_of}
use Rattle.vk_promises.specs.Settings.{CallsAreRight, IsRightCall, Setting, types_called}
use Rattle.vk_promises.proofs.Targets.{call_is_right}
use Rattle.vk_settings.specs.Programs.{IsProgram, IsRunning, IsTold}
use Rattle.vk_settings.proofs.Declared.{declared_so}
use Rattle.vk_settings.proofs.Heads.{IsDefinedIn, defined_in_unit}
use Rattle.vk_settings.proofs.Meant.{IsCallOf, call_of, every_in}
use Rattle.vk_settings.proofs.Sound.{AreTyped, IsFunctionCall, calls_mean_functions}
use Rattle.vk_settings.proofs.Told.{callee_told, declared_here}

-- ---- the row of a slot

pub record HasRow (o : ObjectLists) (slot : CallSite) : Type 0 where
  pub row : FunctionLists
  pub at : slice_get o.functions slot.function ≡ Some row

row_of : (o : ObjectLists) (c : Routine) (slot : CallSite) (r : Option FunctionLists) → slice_get o.functions slot.function ≡ r → holds (is_call_of c slot) (option_map callee_of r) ≡ true → HasRow o slot
row_of o c slot None e h = cc
row_of o c slot (Some row) e h = record { row = row; at = e }

-- a slot of valid code has a row
slot_row : (o : ObjectLists) (c : Listing) (k : ℕ) (slot : CallSite) → IsValid (names_of o) c → slice_get c.routine.slots k ≡ Some slot → HasRow o slot
slot_row o c k slot valid e =
    row_of o c.routine slot (slice_get o.functions slot.function) refl
    (ap (holds (is_call_of c.routine slot)) (sym (slice_get-map callee_of o.functions slot.function)) ∙
    both_second (has_good_args c.routine slot && is_result _ slot.result) (has_callee (names_of o) c.routine slot) good)
  where
    slots : List Bool
    slots = map (is_good_slot (names_of o) c.routine) c.routine.slots

    rest : List Bool
    rest = map (is_good_loop (names_of o) c.routine) c.loops ++ body_verdicts (names_of o) c.routine

    all_slots : list_all (λ (b : Bool). b) slots ≡ true
    all_slots = both_first (list_all (λ (b : Bool). b) slots) (list_all (λ (b : Bool). b) rest)
        (sym (list_all-append (λ (b : Bool). b) slots rest) ∙ both_second (is_good_head c.routine) (all_good (slots ++ rest)) valid)

    good : is_good_slot (names_of o) c.routine slot ≡ true
    good = all_at (λ (b : Bool). b) slots all_slots k (is_good_slot (names_of o) c.routine slot) (slice_get-map (is_good_slot (names_of o) c.routine) c.routine.slots k ∙ ap (option_map (is_good_slot (names_of o) c.routine)) e)

-- ---- calls of a text and slots of its code

made_callee : (u : Subject) (m : Manner) (c : CallText) → (call_made u m c).callee ≡ text_of u.texts c.callee
made_callee u plain c = refl
made_callee u (lanes v) c = refl

not_print : (b : Bool) → not b ≡ true → b ≡ false
not_print true h = cc
not_print false h = refl

-- the place of the slot of a call
slot_at : (y : Symbols) (slots : List CallSite) (made : CallText → Call) (cs : List CallText) (k : ℕ) (c : CallText) → map (call_told y) slots ≡ map made cs → slice_get cs k ≡ Some c → At (call_told y) slots k (made c)
slot_at y slots made cs k c e is = get_unmap (call_told y) slots k (made c) (ap (λ (xs : List Call). slice_get xs k) e ∙ (slice_get-map made cs k ∙ ap (option_map made) is))

same_some : {X : Type 0} (a b : X) → Some a ≡ Some b → a ≡ b
same_some a b e = cc

-- the objects of a program are for one target
pub one_target : (ps : List Pair) (image : Tables) → IsProgram ps image → (q r : Pair) → Contains ps q → Contains ps r → q.object.target ≡ r.object.target
one_target ps image program q r a b =
    sym (program.joins.target q.object (contains_map (λ (z : Pair). z.object) ps q a)) ∙ program.joins.target r.object (contains_map (λ (z : Pair). z.object) ps r b)

module _ (ps : List Pair) (image : Tables) (program : IsProgram ps image) (typed : (v : Subject) → IsAccepted v → AreTyped v) (p : Pair) (text : List ℕ) (d : Definition) (manner : Manner) (e : ℕ) (x : EntryLists) (plan : Planned)
    (running : IsRunning ps image p text d manner e x plan) (turns : ℕ) (limit : IsTurnLimit turns) (code : Listing) (code_is : code_of image x ≡ Some code) where
  abbrev here : Site
  here = site_at image turns (entry_at image turns 63) x code

  abbrev place : Setting
  place = setting_of (units_of ps) image turns d here (array_number image)

  linked_code : IsLinkedCode (objects_of ps) image plan.made code
  linked_code = program.joins.linked_codes x.code plan.made code running.planned.is.code code_is

  pub linked : IsLinked (array_of_object image p.object) plan.made.code code
  linked = subst (λ (o : ObjectLists). IsLinked (array_of_object image o) plan.made.code code) running.object linked_code.linked

  module _ (k : ℕ) (c : CallText) (own_call : slice_get (own_calls d.unit (body_calls d)) k ≡ Some c) (made : CallSite) (made_at : slice_get code.routine.slots k ≡ Some made) where
    abbrev name : List ℕ
    name = text_of d.unit.texts c.callee

    slot : At (call_told (symbols_of p.object)) plan.made.code.routine.slots k (call_made d.unit manner c)
    slot = slot_at (symbols_of p.object) plan.made.code.routine.slots (call_made d.unit manner) (own_calls d.unit (body_calls d)) k c running.code.calls own_call

    is_own : Contains (own_calls d.unit (body_calls d)) c
    is_own = among (own_calls d.unit (body_calls d)) k c own_call

    callee_is : callee_name (symbols_of p.object) slot.of ≡ name
    callee_is = ap (λ (z : Call). z.callee) slot.is ∙ made_callee d.unit manner c

    row : HasRow p.object slot.of
    row = slot_row p.object plan.made.code k slot.of running.code.valid slot.at

    row_name : symbol_of p.object row.row.symbol ≡ name
    row_name =
        sym (ap (λ (o : Option (List ℕ)). unwrap_or o []) (slice_get-map (λ (r : FunctionLists). symbol_of p.object r.symbol) p.object.functions slot.of.function ∙ ap (option_map (λ (r : FunctionLists). symbol_of p.object r.symbol)) row.at)) ∙ callee_is

    called : Contains (callees_of (Some d)) name
    called =
        Contains-append_left (callees_in d.unit (body_calls d)) (flat_map (λ (l : LoopText). callees_in d.unit (loop_calls l)) (own_loops d)) name
        (contains_map (λ (z : CallText). text_of d.unit.texts z.callee) (own_calls d.unit (body_calls d)) c is_own)

    told : IsTold ps p slot.of (symbol_of p.object row.row.symbol)
    told = callee_told ps program.accepted program.tables program.links (one_target ps image program) p running.among slot.of row.row row.at text d running.defined (subst (λ (g : List ℕ). Contains (callees_of (Some d)) g) (sym row_name) called)

    abbrev f : Definition
    f = told.definition

    f_is : definition_of (units_of ps) name ≡ Some f
    f_is = subst (λ (g : List ℕ). definition_of (units_of ps) g ≡ Some f) row_name told.is

    tells : TellsOf p.object slot.of name f
    tells = subst (λ (g : List ℕ). TellsOf p.object slot.of g f) row_name told.tells

    -- the row of the callee, as the unit declares it
    row_declared : option_map (λ (z : Declared). z.params) (declared_in_unit p.unit name) ≡ Some row.row.head.params
    row_declared =
        subst (λ (g : List ℕ). option_map (λ (z : Declared). z.params) (declared_in_unit p.unit g) ≡ Some row.row.head.params) row_name
        (ap (option_map (λ (z : Declared). z.params)) (declared_here ps program.accepted program.tables program.links (one_target ps image program) p running.among slot.of row.row row.at))

    row_is : row.row ≡ tells.row
    row_is = same_some row.row tells.row (sym row.at ∙ tells.at)

    -- the name is not that of the built-in function
    other : is_print d.unit.texts c.callee ≡ false
    other = not_print (is_print d.unit.texts c.callee) (kept (λ (z : CallText). not (is_print d.unit.texts z.callee)) (body_calls d) c is_own).passes

    defined : IsDefinedIn text p.unit d
    defined = defined_in_unit text p.unit d running.defined

    call_is : IsCallOf d c
    call_is =
        let among_all : Contains (body_calls d) c = (kept (λ (z : CallText). not (is_print d.unit.texts z.callee)) (body_calls d) c is_own).among in
        call_of d c among_all other (every_in IsFunctionCall (body_calls d) c (calls_mean_functions p.unit (typed p.unit (program.accepted p running.among)) text d running.defined) among_all)

    passed : option_map (λ (z : Declared). z.params) (declared_in_unit p.unit name) ≡ Some (types_called c)
    passed =
        subst (λ (u : Subject). option_map (λ (z : Declared). z.params) (declared_in_unit p.unit (text_of u.texts c.callee)) ≡ Some (types_called c)) (sym defined.unit_is)
        (declared_so p.unit (program.accepted p running.among) d.items defined.behind defined.prefix c.callee call_is.declaration call_is.first
        (subst (λ (u : Subject). is_print u.texts c.callee ≡ false) defined.unit_is other) ∙ ap Some (sym call_is.types))

    types : types_called c ≡ param_types f
    types =
        same_some (types_called c) row.row.head.params
        (sym passed ∙ row_declared) ∙
        (ap (λ (r : FunctionLists). r.head.params) row_is ∙ ap (λ (h : HeadTypes). h.params) tells.head)

    agrees : Agrees (units_of ps) image name f
    agrees = subst (λ (o : Option Definition). AgreesWhereDefined (units_of ps) image name o) f_is
        (running.callees name (subst (λ (o : Option Definition). Contains (callees_of o) name) (sym running.whole) called))

    is : IsEntry image e x
    is = running.planned.entry

    target : HasTarget image x k
    target = slot_target image program.valid e x code is code_is k made made_at

    within : is_within image 63 target.number ≡ true
    within = all_at (is_within image 63) x.targets (both_first (list_all (is_within image 63) x.targets) _ x_within) k target.number target.target
      where
        x_within : calls_within (is_within image 63) x ≡ true
        x_within = subst (λ (o : Option EntryLists). holds (calls_within (is_within image 63)) o ≡ true) is (entry_within image program.valid e x is)

    chosen : IsTarget (goal_of image) plan.made x slot.of target.entry
    chosen = program.joins.targets x target.entry plan slot.of (record {
      number = e;
      planned = running.planned;
      place = k;
      slot_is = slot.at;
      target = target.number;
      target_is = target.target;
      entry = target.is;
    })

    lanes_of : HasLanesOf target.entry.kind target.entry.lanes
    lanes_of = entry_lanes image program.valid target.number target.entry target.is

    linked_call : IsLinkedCall (units_of ps) image turns d here c plan.made slot.of made target.number target.entry f
    linked_call = record {
      limit = limit;
      slots = linked.slots k slot.of made slot.at made_at;
      callee = subst (λ (o : ObjectLists). callee_name (symbols_of o) slot.of ≡ name) (sym running.object) callee_is;
      own = other;
      tells = subst (λ (o : ObjectLists). TellsOf o slot.of name f) (sym running.object) tells;
      types = types;
      agrees = agrees;
      entry = target.is;
      within = within;
      calls = refl;
      target = chosen;
      lanes = λ q. subst (λ (z : EntryKind). HasLanesOf z target.entry.lanes) q lanes_of;
      lane = λ q. subst (λ (z : EntryKind). HasLanesOf z target.entry.lanes) q lanes_of;
      caller = ordinary_calls x target.entry target.may;
    }

    right_call : IsRightCall place c made k
    right_call = record {
      number = target.number;
      target = target.target;
      entry = target.entry;
      is = target.is;
      may = call_is_right (units_of ps) image turns d here (array_number image) c plan.made slot.of made target.number target.entry f linked_call;
    }

  -- THE CALLS: the slots of the running code are the calls of the text, and each is right
  pub calls_are_right : CallsAreRight place (own_calls d.unit (body_calls d))
  calls_are_right k c made a b = right_call k c a made b
