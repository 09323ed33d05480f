-- Each lane has what the scalar call gives.
use Rattle.std.proofs.Common.{rules, sym, ◌≡◌, ℕ, zero, suc, ◌<◌, Bool, true, false, ◌&&◌, cond, List, [], ◌∷◌, ◌++◌, map, Option, Some, None, is_some, refl, subst, ap, ap₂, ◌∙◌, true≢false}
use Rattle.std.specs.List.{AllByRecursion, filter_map, list_all}
use Rattle.std.specs.Option.{option_and_then, option_or}
use Rattle.std.specs.Str.{bytes_eq}
use Rattle.std.proofs.lemmas.Option.{none-some}
use Rattle.vk_types.specs.declared.types.Ty.{Ty}
use Rattle.vk_types.specs.declared.types.Stop.{Stop}
use Rattle.vk_types.specs.Numbers.{IsInRange, wrap_number}
use Rattle.vk_numbers.proofs.Numbers.{canonical_word, number_of-word, wrap_in_range}
use Rattle.vk_kinds.specs.declared.heads.CType.{CType}
use Rattle.vk_kinds.specs.declared.heads.CType.TheVariants.{Int, Ptr, Void}
use Rattle.vk_kinds.specs.declared.kinds.Target.TheVariants.{X86}
use Rattle.vk_kinds.specs.Types.{integer_of}
use Rattle.vk_ast.specs.declared.items.ParamDecl.{ParamDecl}
use Rattle.vk_ast.specs.Statements.{StmtTree, StmtTrees, block, more_stmts, no_stmts, return_value}
use Rattle.vk_ast.specs.Tree.{Tree}
use Rattle.vk_ast.specs.Units.{FunctionTree, function}
use Rattle.vk_rules_book.specs.Rules.{Subject}
use Rattle.vk_rules_book.specs.Scopes.{text_of, types_of}
use Rattle.vk_meaning.specs.World.{World, first_memory}
use Rattle.vk_meaning.specs.Data.{Action, Value, got, halts, nothing, number, number_in, pointer, with_value}
use Rattle.vk_meaning.specs.Expressions.{converted, value_of}
use Rattle.vk_meaning.specs.Programs.{Definition, array_defined, arrays_of, defined_behind, definition_of, in_order, with_body}
use Rattle.vk_meaning.specs.Types.{is_written_type, type_at}
use Rattle.vk_meaning.specs.Meaning.{first_variables, means}
use Rattle.vk_meaning.specs.Lanes.{AreTyped, Words, arguments_of}
use Rattle.vk_meaning.specs.LaneWise.{IsResult}
use Rattle.vk_code.specs.Listing.{Listing}
use Rattle.vk_object.specs.Machine.{Site, enters, entry_at, site_at}
use Rattle.vk_lane.specs.Places.{extent_of}
use Rattle.vk_lane.specs.Runs.{Bodies, IsLaneRun, results_of}
use Rattle.vk_construct_whole.specs.Wholes.{IsOneReturn, body_scope, own_context}
use Rattle.vk_construct_whole.proofs.Definitions.{means_value, return_on_lanes}
use Rattle.vk_construct_whole.proofs.Returning.{first_world}
use Rattle.vk_lane_lines.specs.declared.lines.Told.TheVariants.{Value as TheValue}
use Rattle.vk_lane_lines.specs.Lines.{IsResult as IsLaneResult, ended, told_by}
use Rattle.vk_one_return.specs.Form.{IsReturn, is_integer, returned_alone, returned_by, returned_in}
use Rattle.vk_flat_functions.specs.Returns.{IsReturnCode}
use Rattle.vk_one_image.specs.Tables.{entry_of, tables_of}
use Rattle.vk_unit_call.specs.Inner.Runs.{no_memory, ran}
use Rattle.vk_unit_call.specs.Values.{scalar_value}

-- ---- the definition

-- one `return` of the expression
record Shape (b : StmtTree) (e : Tree) : Type 0 where
  line : ℕ
  token : ℕ
  return_line : ℕ
  return_token : ℕ
  is : b ≡ block line token (more_stmts (return_value return_line return_token (Some e)) no_stmts)

shape_by : (l k : ℕ) (s : StmtTree) (e : Tree) → returned_by s ≡ Some e → Shape (block l k (more_stmts s no_stmts)) e
shape_by l k (return_value rl rk None) e h = absurd (none-some e h)
shape_by l k (return_value rl rk (Some x)) e h = record {
  line = l;
  token = k;
  return_line = rl;
  return_token = rk;
  is = ap (λ o. block l k (more_stmts (return_value rl rk o) no_stmts)) h;
}
shape_by l k s e h = absurd (none-some e h)

shape_alone : (l k : ℕ) (ss : StmtTrees) (e : Tree) → returned_alone ss ≡ Some e → Shape (block l k ss) e
shape_alone l k no_stmts e h = absurd (none-some e h)
shape_alone l k (more_stmts s no_stmts) e h = shape_by l k s e h
shape_alone l k (more_stmts s (more_stmts t ss)) e h = absurd (none-some e h)

shape_in : (b : StmtTree) (e : Tree) → returned_in b ≡ Some e → Shape b e
shape_in (block l k ss) e h = shape_alone l k ss e h
shape_in b e h = absurd (none-some e h)

first : (a b : Bool) → (a && b) ≡ true → a ≡ true
first true b h = refl
first false b h = h

second : (a b : Bool) → (a && b) ≡ true → b ≡ true
second true b h = h
second false b h = cc

all_named : (ps : List ParamDecl) → list_all is_integer ps ≡ true → AllByRecursion (λ (p : ParamDecl). is_some p.name ≡ true) ps
all_named [] h = tt
all_named (p ∷ ps) h = (first (is_some p.name) (is_some (integer_of p.ctype)) (first (is_integer p) (list_all is_integer ps) h), all_named ps (second (is_integer p) (list_all is_integer ps) h))

same_bytes : (text : List ℕ) → bytes_eq text text ≡ true
same_bytes text = search rules

abbrev definition : Subject → FunctionTree → StmtTree → Definition
definition unit f b = record { unit = unit; items = function f ∷ []; function = f; body = b }

defined : (unit : Subject) (f : FunctionTree) (b : StmtTree) → unit.items ≡ function f ∷ [] → f.body ≡ Some b → definition_of (unit ∷ []) (text_of unit.texts f.name) ≡ Some (definition unit f b)
defined unit f b items body =
    ap (λ is. option_or (defined_behind (text_of unit.texts f.name) unit [] is) None) items
    ∙ (ap (λ same. option_or (option_or (cond same (with_body unit (function f ∷ []) f f.body) None) None) None) (same_bytes (text_of unit.texts f.name))
    ∙ ap (λ o. option_or (option_or (with_body unit (function f ∷ []) f o) None) None) body)

no_arrays : (unit : Subject) (f : FunctionTree) → unit.items ≡ function f ∷ [] → arrays_of (unit ∷ []) ≡ []
no_arrays unit f items = ap (λ is. in_order (filter_map (array_defined unit) is ++ [])) items

-- ---- integers are apart

not_written : (ps : List ParamDecl) (p : ℕ) → list_all is_integer ps ≡ true → is_written_type (type_at (types_of ps) p) ≡ false
not_written [] p h = refl
not_written (q ∷ ps) zero h = go q.ctype (second (is_some q.name) (is_some (integer_of q.ctype)) (first (is_integer q) (list_all is_integer ps) h))
  where
    go : (t : CType) → is_some (integer_of t) ≡ true → is_written_type t ≡ false
    go Void e = cc
    go (Int t) e = refl
    go (Ptr to written) e = cc
not_written (q ∷ ps) (suc p) h = not_written ps p (second (is_integer q) (list_all is_integer ps) h)

-- ---- values

-- a number is one of the type, and it is no pointer and not nothing
abbrev IsTypedValue : Ty → Value → Type 0
IsTypedValue t (got (number z) w) = IsInRange t z
IsTypedValue t (got (pointer array offset) w) = ⊥
IsTypedValue t (got nothing w) = ⊥
IsTypedValue t (halts x w) = Unit {0}

converted_typed : (t : Ty) (a : Action) (w : World) → IsTypedValue t (converted t a w)
converted_typed t a w = go (a w)
  where
    go : (v : Value) → IsTypedValue t (with_value v (λ d w. got (number (wrap_number t (number_in d))) w))
    go (got d w) = wrap_in_range t (number_in d)
    go (halts x w) = tt

told : (t : Ty) (v : Value) (word : ℕ) (stop : Option Stop) → IsTypedValue t v → IsResult v 0 word stop → ended (Some t) word stop ≡ told_by v
told t (got (number z) w) word stop r h = rw h.0 (rw h.1 (ap TheValue (number_of-word t z r)))
told t (got (pointer array offset) w) word stop r h = absurd r
told t (got nothing w) word stop r h = absurd r
told t (halts x w) word stop r h = rw h.1 refl

fits : (t : Ty) (v : Value) (word : ℕ) (stop : Option Stop) → IsTypedValue t v → IsResult v 0 word stop → IsLaneResult (Some t) true word stop
fits t (got (number z) w) word stop r h = rw h.1 (rw h.0 (canonical_word t z r))
fits t (got (pointer array offset) w) word stop r h = absurd r
fits t (got nothing w) word stop r h = absurd r
fits t (halts x w) word stop r h = rw h.1 tt

-- ---- a lane

abbrev no_bodies : Bodies
no_bodies = record { is_body = λ n. false; calls = λ n e. 0 }

-- what a lane of the code's run has, beside the scalar call
record Has (t : Ty) (v : Value) (word : ℕ) (stop : Option Stop) : Type 0 where
  typed : IsTypedValue t v
  result : IsResult v 0 word stop

lane_has : (unit : Subject) (f : FunctionTree) (e : Tree) (t : Ty) (c : Listing) (b : StmtTree) → unit.items ≡ function f ∷ [] → IsReturn f e t → IsReturnCode f e t c → f.body ≡ Some b → Shape b e →
    (turns lanes : ℕ) (mask : ℕ → Bool) (words : Words) → 0 < lanes → AreTyped (types_of f.params) [] lanes words mask → (lane : ℕ) → lane < lanes → mask lane ≡ true →
    Has t (scalar_value unit f turns words lane) (results_of mask (λ j. 0) (ran c turns lanes mask words) lane) ((ran c turns lanes mask words).stop lane)
unfolding ran scalar_value
lane_has unit f e t c b items returns code body shape turns lanes mask words some typed lane below on = record {
  typed = subst (IsTypedValue t) (sym (means_value (unit ∷ []) turns text d e t (arguments_of (types_of f.params) words lane) (first_memory (arrays_of (unit ∷ []))) here one)) (converted_typed t
      (value_of (own_context (unit ∷ []) turns d) (body_scope d) (first_variables (arguments_of (types_of f.params) words lane)) e) (first_world (first_memory (arrays_of (unit ∷ [])))));
  result = subst (λ m. IsResult (means (unit ∷ []) turns text (arguments_of (types_of f.params) words lane) m) 0 (results_of mask (λ j. 0) (enters 0 site mask words no_memory) lane) ((enters 0 site mask words no_memory).stop lane))
      (sym (ap first_memory (no_arrays unit f items))) (runs.wise.results lane below on);
}
  where
    text : List ℕ
    text = text_of unit.texts f.name

    d : Definition
    d = definition unit f b

    here : definition_of (unit ∷ []) text ≡ Some d
    here = defined unit f b items body

    one : IsOneReturn d e t
    one = record {
      line = shape.line;
      token = shape.token;
      return_line = shape.return_line;
      return_token = shape.return_token;
      body = shape.is;
      result = returns.result;
      named = all_named f.params returns.params;
    }

    site : Site
    site = site_at (tables_of lanes c) turns (entry_at (tables_of lanes c) turns 63) (entry_of lanes c.routine.params) c

    runs : IsLaneRun (arrays_of (unit ∷ [])) no_bodies (types_of f.params) (means (unit ∷ []) turns text) lanes mask words no_memory (λ j. 0) (enters 0 site mask words no_memory)
    runs = return_on_lanes (unit ∷ []) turns text d e t site no_bodies 0 code.written code.register code.size no_memory mask words (λ j. 0) here one (code.adds d refl) code.typed code.finished
        (record { extents = sym (ap (λ arrays. map extent_of arrays) (no_arrays unit f items)); turns = refl }) some refl
        (subst (λ arrays. AreTyped (types_of f.params) arrays lanes words mask) (sym (no_arrays unit f items)) typed)
        (record {
          cells = λ i j il jl io jo ne a k n m. absurd (true≢false (sym n.written ∙ not_written f.params n.parameter returns.params));
          arrays_read = λ i j il jl io jo ne a k n m. absurd (true≢false (sym n.written ∙ not_written f.params n.parameter returns.params));
        })

-- the same of any unit of the function
has : (unit : Subject) (f : FunctionTree) (e : Tree) (t : Ty) (c : Listing) (body : Option StmtTree) → unit.items ≡ function f ∷ [] → IsReturn f e t → IsReturnCode f e t c → f.body ≡ body → option_and_then returned_in body ≡ Some e →
    (turns lanes : ℕ) (mask : ℕ → Bool) (words : Words) → 0 < lanes → AreTyped (types_of f.params) [] lanes words mask → (lane : ℕ) → lane < lanes → mask lane ≡ true →
    Has t (scalar_value unit f turns words lane) (results_of mask (λ j. 0) (ran c turns lanes mask words) lane) ((ran c turns lanes mask words).stop lane)
has unit f e t c None items returns code is h = absurd (none-some e h)
has unit f e t c (Some b) items returns code is h = lane_has unit f e t c b items returns code is (shape_in b e h)

pub lane_told : (unit : Subject) (f : FunctionTree) (e : Tree) (t : Ty) (c : Listing) → unit.items ≡ function f ∷ [] → IsReturn f e t → IsReturnCode f e t c →
    (turns lanes : ℕ) (mask : ℕ → Bool) (words : Words) → 0 < lanes → AreTyped (types_of f.params) [] lanes words mask → (lane : ℕ) → lane < lanes → mask lane ≡ true →
    (word : ℕ) (stop : Option Stop) → word ≡ results_of mask (λ j. 0) (ran c turns lanes mask words) lane → stop ≡ (ran c turns lanes mask words).stop lane →
    ended (Some t) word stop ≡ told_by (scalar_value unit f turns words lane)
lane_told unit f e t c items returns code turns lanes mask words some typed lane below on word stop w s =
    let h = has unit f e t c f.body items returns code refl returns.body turns lanes mask words some typed lane below on in
    ap₂ (λ x y. ended (Some t) x y) w s ∙ told t (scalar_value unit f turns words lane) _ _ h.typed h.result

-- some unit of the function
abbrev some_unit : FunctionTree → Subject
some_unit f = record { items = function f ∷ []; texts = []; target = X86 }

pub lane_fits : (f : FunctionTree) (e : Tree) (t : Ty) (c : Listing) → IsReturn f e t → IsReturnCode f e t c → (turns lanes : ℕ) (mask : ℕ → Bool) (words : Words) → 0 < lanes → AreTyped (types_of f.params) [] lanes words mask →
    (lane : ℕ) → lane < lanes → (word : ℕ) (stop : Option Stop) → word ≡ results_of mask (λ j. 0) (ran c turns lanes mask words) lane → stop ≡ (ran c turns lanes mask words).stop lane → IsLaneResult (Some t) (mask lane) word stop
lane_fits f e t c returns code turns lanes mask words some typed lane below word stop w s = go (mask lane) refl
  where
    on_lane : mask lane ≡ true → IsLaneResult (Some t) true word stop
    on_lane on =
        let h = has (some_unit f) f e t c f.body refl returns code refl returns.body turns lanes mask words some typed lane below on in
        subst (λ x. IsLaneResult (Some t) true x stop) (sym w) (subst (λ y. IsLaneResult (Some t) true (results_of mask (λ j. 0) (ran c turns lanes mask words) lane) y) (sym s)
        (fits t (scalar_value (some_unit f) f turns words lane) _ _ h.typed h.result))

    go : (on : Bool) → mask lane ≡ on → IsLaneResult (Some t) on word stop
    go true is = on_lane is
    go false is = tt
