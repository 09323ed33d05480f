-- What `lanes` does over a unit: what it prints, how it refuses the unit or the call, and what holds with each answer.
use Rattle.std.specs.Prelude.{◌≡◌, ◌⊎◌, ⊤, ℕ, ◌<◌, ◌≤◌, true, List, [], ◌∷◌, cond, length, Option, None, Some, slice_get}
use Rattle.std.specs.List.{flat_map, range_with_len}
use Rattle.vk_types.specs.declared.types.Stop.{Stop}
use Rattle.vk_types.specs.declared.types.Ty.{Ty}
use Rattle.vk_io.specs.Sink.{SinkState}
use Rattle.vk_io.specs.Store.{StoreState}
use Rattle.vk_kinds.specs.declared.kinds.Isa.{Isa}
use Rattle.vk_kinds.specs.Sizes.{SignatureTree}
use Rattle.vk_ast.specs.Tree.{Tree}
use Rattle.vk_ast.specs.Units.{FunctionTree}
use Rattle.vk_rules_book.specs.Directives.{signatures}
use Rattle.vk_rules_book.specs.Rules.{Subject}
use Rattle.vk_rules_book.specs.Scopes.{types_of}
use Rattle.vk_accept.specs.Accepted.{HasSimdLine, IsAccepted, IsUnitRefused}
use Rattle.vk_one_return.specs.Form.{IsForm}
use Rattle.vk_selection.specs.Letters.{target_of}
use Rattle.vk_selection.specs.Selection.{IsSelected}
use Rattle.vk_selection.specs.declared.selection.Selected.{Selected}
use Rattle.vk_selection.specs.declared.selection.Selected.TheVariants.{Vector, Scalar}
use Rattle.vk_arguments.specs.Arguments.{AreTaken, Called, Given, IsRefused, given, kinds_of, words_in}
use Rattle.vk_arguments.specs.Integers.{integer_word}
use Rattle.vk_arguments.specs.Texts.{mask_of}
use Rattle.vk_unit_call.specs.Values.{scalar_value}
use Rattle.vk_lane_lines.specs.Lines.{line, told_by}
use Rattle.vk_lane_lines.specs.declared.lines.Told.TheVariants.{Off}
use Rattle.vk_ends.specs.Holds.{Holds}
use Rattle.vk_ends.specs.declared.ends.CallRule.{CallRule}
use Rattle.vk_ends.specs.declared.ends.CallRule.TheVariants.{A1}
use Rattle.vk_ends.specs.declared.ends.Refusal.{Refusal}
use Rattle.vk_ends.specs.declared.ends.Refusal.TheVariants.{Size, Name as Unnamed, Unit as Unfit, NotYet, Call as CallRefusal}
use Rattle.vk_ends.specs.declared.ends.End.{End}
use Rattle.vk_ends.specs.declared.ends.End.TheVariants.{Done, Refused, ReadFault, WriteFault, Memory}
use Rattle.vk_cmd_lanes.specs.declared.command.Call.{Call}

-- what `lanes` is asked: a letter, the unit's file, a name, BITS and the ARGs, and the limit of turns
pub record Asked : Type 0 where
  pub isa : Isa
  pub unit : List ℕ
  pub name : List ℕ
  pub given : Given
  pub turns : ℕ

abbrev pub asked_of : Call → Asked
asked_of call = record {
  isa = call.isa;
  unit = call.unit.now;
  name = call.name.now;
  given = given call.mask call.arguments.now;
  turns = call.turns;
}

-- ---- units

-- the bytes are a unit that is accepted for the letter's target
pub record IsUnitFor (r : Asked) (bytes : List ℕ) (unit : Subject) : Type 0 where
  pub accepted : IsAccepted bytes unit
  pub target_is : unit.target ≡ target_of r.isa

-- and it is a function that returns an expression, which is the form that is run
pub record IsRunUnit (r : Asked) (bytes : List ℕ) (unit : Subject) (f : FunctionTree) : Type 0 where
  pub is : IsUnitFor r bytes unit
  pub value : Tree
  pub result : Ty
  pub form : IsForm unit f value result

-- or of another form
pub record IsOther (r : Asked) (bytes : List ℕ) : Type 0 where
  pub unit : Subject
  pub is : IsUnitFor r bytes unit
  pub formless : (f : FunctionTree) (e : Tree) (t : Ty) → IsForm unit f e t → ⊥

-- what is not run yet: a unit with a SIMD line, whatever rule it breaks from C8 on, or an accepted unit of another form
abbrev pub IsUnbuilt : Asked → List ℕ → Type 0
IsUnbuilt r bytes = HasSimdLine bytes ⊎ IsOther r bytes

-- ---- what is called

-- A variant has the kinds of its directive, and all its lanes are on where it takes no mask. Scalar code has one lane, which may be
-- off, and no kinds.
abbrev pub IsCalledAs : FunctionTree → Selected → Called → Type 0
IsCalledAs f (Vector v lanes) c = (s : SignatureTree) × (slice_get (signatures f) v.directive ≡ Some s)
    × (c ≡ record { types = types_of f.params; kinds = kinds_of s.params; lanes = lanes; takes_mask = v.front.masked })
IsCalledAs f (Scalar number) c = c ≡ record { types = types_of f.params; kinds = []; lanes = 1; takes_mask = true }

-- the name selects it
pub record IsCallee (unit : Subject) (f : FunctionTree) (r : Asked) (c : Called) : Type 0 where
  pub selected : Selected
  pub selects : IsSelected unit r.isa 0 r.name selected
  pub called : IsCalledAs f selected c

-- ---- what is printed

-- the line of a lane: what a scalar call of the function gives on its words, where the lane is active
abbrev pub lane_line : Subject → FunctionTree → Asked → Called → (lane : ℕ) → List ℕ
lane_line unit f r c lane = line lane (cond (mask_of c.lanes r.given.bits lane)
    (told_by (scalar_value unit f r.turns (words_in integer_word c.types r.given.texts) lane)) Off)

-- the arguments are taken, and the line of each lane comes in order
pub record PrintsCall (unit : Subject) (f : FunctionTree) (r : Asked) (text : List ℕ) : Type 0 where
  pub callee : Called
  pub selects : IsCallee unit f r callee
  pub taken : AreTaken integer_word callee r.given
  pub text_is : text ≡ flat_map (lane_line unit f r callee) (range_with_len 0 callee.lanes)

-- over a unit of at most 1048576 bytes of the form that is run
abbrev pub PrintsLanes : Asked → Option (List ℕ) → List ℕ → Option Stop → Type 0
PrintsLanes r None text stop = ⊥
PrintsLanes r (Some bytes) text stop =
    (length bytes ≤ 1048576) × (stop ≡ None) × (unit : Subject) × (f : FunctionTree) × IsRunUnit r bytes unit f × PrintsCall unit f r text

-- ---- what is refused

-- the name selects nothing, or the arguments break a rule
abbrev pub RefusesCall : Subject → FunctionTree → Asked → CallRule → (first second : ℕ) → Type 0
RefusesCall unit f r A1 first second =
    ((selected : Selected) → IsSelected unit r.isa 0 r.name selected → ⊥) × (first ≡ 0) × (second ≡ 0)
RefusesCall unit f r rule first second = (c : Called) × IsCallee unit f r c × IsRefused integer_word c r.given rule first second

-- a longer file is refused, else the first rule that the unit breaks, else one that is not run yet, else a wrong call
abbrev pub RefusesLanes : Asked → Option (List ℕ) → Refusal → Type 0
RefusesLanes r None refusal = ⊥
RefusesLanes r (Some bytes) (Size input) = (input ≡ 0) × (1048576 < length bytes)
RefusesLanes r (Some bytes) (Unnamed line at rule) = ⊥
RefusesLanes r (Some bytes) (Unfit input line directive rule) =
    (length bytes ≤ 1048576) × (input ≡ 0) × IsUnitRefused bytes (target_of r.isa) line directive rule
RefusesLanes r (Some bytes) (NotYet input) = (length bytes ≤ 1048576) × (input ≡ 0) × IsUnbuilt r bytes
RefusesLanes r (Some bytes) (CallRefusal fault) =
    (length bytes ≤ 1048576) × (unit : Subject) × (f : FunctionTree) × IsRunUnit r bytes unit f × RefusesCall unit f r fault.rule fault.first fault.second

-- ---- answers

-- the ends that it has at all: there is one input, and what stops in a lane stops no command
abbrev pub AllowsLanes : End → Type 0
AllowsLanes Done = ⊤
AllowsLanes (Refused (Size input)) = input ≡ 0
AllowsLanes (Refused (Unfit input line directive rule)) = input ≡ 0
AllowsLanes (Refused (NotYet input)) = input ≡ 0
AllowsLanes (Refused (CallRefusal fault)) = ⊤
AllowsLanes (ReadFault input) = input ≡ 0
AllowsLanes WriteFault = ⊤
AllowsLanes Memory = ⊤
AllowsLanes _ = ⊥

-- what holds with each answer of `lanes --isa I [--mask BITS] [--turns N] UNIT NAME ARG..`
abbrev pub LanesHolds : Asked → (store store_now : StoreState) → (out out_now : SinkState) → End → Type 0
LanesHolds r store store_now out out_now end =
    Holds (r.unit ∷ []) (PrintsLanes r (store.file r.unit)) (RefusesLanes r (store.file r.unit)) AllowsLanes store store_now out out_now end
