-- When the codes of an object are made of the texts of a unit.
use Rattle.std.specs.Prelude.{◌≡◌, ℕ, Bool, true, false, not, List, [], ◌∷◌, ◌++◌, map, flat_map, filter, filter_map, slice_get, unwrap_or, Option, Some, None, Contains}
use Rattle.vk_kinds.specs.Sizes.{SignatureTree}
use Rattle.vk_ast.specs.Tree.{Trees, no_trees, more_trees}
use Rattle.vk_ast.specs.Statements.{StmtTree}
use Rattle.vk_rules_book.specs.Rules.{Subject}
use Rattle.vk_rules_book.specs.Scopes.{text_of, is_print, meaning_of}
use Rattle.vk_rules_book.specs.Typings.{wanted_types}
use Rattle.vk_meaning.specs.Points.{Point}
use Rattle.vk_meaning.specs.Programs.{Definition, first_point}
use Rattle.vk_code.specs.declared.code.Shape.{Shape}
use Rattle.vk_code.specs.declared.code.Shape.TheVariants.{Vector}
use Rattle.vk_code.specs.declared.code.SlotArg.{SlotArg}
use Rattle.vk_code.specs.declared.instruction.Instr.{Instr}
use Rattle.vk_code.specs.declared.instruction.Operation.{Operation}
use Rattle.vk_code.specs.declared.instruction.Operation.TheVariants.{Addr}
use Rattle.vk_code.specs.Instruction.{operation_of}
use Rattle.vk_code.specs.Listing.{CallSite, Listing, LoopBody, own, numbered, Routine, SimdSite}
use Rattle.vk_code.specs.Valid.{Environment, IsValid}
use Rattle.vk_object.specs.Objects.{CodeLists, DataLists, FunctionLists, ObjectLists, names_of}
use Rattle.vk_sites.specs.Bounds.{IsShort, body_size, function_size, own_loops}
use Rattle.vk_sites.specs.Calls.{CallText, calls_of}
use Rattle.vk_sites.specs.Loops.{LoopText}
use Rattle.vk_sites.specs.Objects.{objects_of}
use Rattle.vk_sites.specs.Shapes.{View, shapes_of, lane_view, loop_view}
use Rattle.vk_agree.specs.Units.{definition_in, param_types, signatures_in}
use Rattle.vk_joins.specs.Tables.{symbol_of, row_in}

-- the names of functions and objects by their numbers, and what is to be known of them for a code to be valid
pub record Symbols : Type 0 where
  pub functions : List (List ℕ)
  pub objects : List (List ℕ)
  pub around : Environment

abbrev pub symbols_of : ObjectLists → Symbols
symbols_of o = record {
  functions = map (λ (r : FunctionLists). symbol_of o r.symbol) o.functions;
  objects = map (λ (r : DataLists). symbol_of o r.symbol) o.objects;
  around = names_of o;
}

-- ---- calls

-- a call: of which function, whether it is always made, and the shapes of its arguments
pub record Call : Type 0 where
  pub callee : List ℕ
  pub always : Bool
  pub shapes : List Shape

-- how a text is made to code: for one lane, where nothing is told of shapes, or for several ones
pub data Manner : Type 0 where
  plain : Manner
  lanes : View → Manner

abbrev pub no_shapes : Trees → List Shape
no_shapes no_trees = []
no_shapes (more_trees e es) = Vector ∷ no_shapes es

abbrev pub call_made : Subject → Manner → CallText → Call
call_made u plain c = record { callee = text_of u.texts c.callee; always = false; shapes = no_shapes c.arguments }
call_made u (lanes v) c = record {
  callee = text_of u.texts c.callee;
  always = c.always;
  shapes = shapes_of v c.scope (wanted_types (meaning_of c.scope c.callee)) c.arguments;
}

-- the calls of a text but those of `print`
abbrev pub own_calls : Subject → List CallText → List CallText
own_calls u cs = filter (λ (c : CallText). not (is_print u.texts c.callee)) cs

abbrev pub calls_made : Subject → Manner → Point → StmtTree → List Call
calls_made u manner p body = map (call_made u manner) (own_calls u (calls_of p true body))

abbrev pub callee_name : Symbols → CallSite → List ℕ
callee_name y slot = unwrap_or (slice_get y.functions slot.function) []

abbrev pub slot_shapes : CallSite → List Shape
slot_shapes slot = map (λ (a : SlotArg). a.shape) slot.args

abbrev pub call_told : Symbols → CallSite → Call
call_told y slot = record { callee = callee_name y slot; always = slot.always; shapes = slot_shapes slot }

abbrev pub calls_told : Symbols → Routine → List Call
calls_told y c = map (call_told y) c.slots

-- ---- objects

abbrev pub addressed : Symbols → Option Operation → Option (List ℕ)
addressed y (Some (Addr d object)) = slice_get y.objects object
addressed y _ = None

abbrev pub names_in_instrs : Symbols → List Instr → List (List ℕ)
names_in_instrs y instrs = filter_map (λ (i : Instr). addressed y (operation_of i)) instrs

abbrev pub names_in_body : Symbols → LoopBody → List (List ℕ)
names_in_body y (own c) = names_in_instrs y c.instrs
names_in_body y (numbered number) = []

-- the objects whose addresses a code takes, those of its loops' bodies included
abbrev pub names_told : Symbols → Listing → List (List ℕ)
names_told y c = names_in_instrs y c.routine.instrs ++ flat_map (λ (l : SimdSite). names_in_body y l.body) c.loops

abbrev pub names_made : Subject → Point → StmtTree → List (List ℕ)
names_made u p body = map (text_of u.texts) (objects_of p body)

-- the same names, however often and in whatever order
pub record AreSame (xs ys : List (List ℕ)) : Type 0 where
  pub there : (text : List ℕ) → Contains xs text → Contains ys text
  pub back : (text : List ℕ) → Contains ys text → Contains xs text

-- ---- one code, and its loops

-- a code of this text
pub record IsCodeOf (y : Symbols) (u : Subject) (manner : Manner) (p : Point) (body : StmtTree) (c : Listing) : Type 0 where
  pub valid : IsValid y.around c
  pub calls : calls_told y c.routine ≡ calls_made u manner p body
  pub names : AreSame (names_told y c) (names_made u p body)

-- the body of a simd loop; its validity is a part of that of the code that it stands in
pub record IsBodyOf (y : Symbols) (u : Subject) (l : LoopText) (site : SimdSite) : Type 0 where
  pub code : Routine
  pub own_code : site.body ≡ own code
  pub simdlen : site.simdlen ≡ l.simdlen
  pub calls : calls_told y code ≡ calls_made u (lanes (loop_view l)) l.inside l.body
  pub names : AreSame (names_in_instrs y code.instrs) (names_made u l.inside l.body)
  pub short : IsShort code (body_size l.body)

abbrev pub AreBodiesOf : Symbols → Subject → List LoopText → List SimdSite → Type 0
AreBodiesOf y u [] [] = Unit {0}
AreBodiesOf y u [] (site ∷ sites) = ⊥
AreBodiesOf y u (l ∷ ls) [] = ⊥
AreBodiesOf y u (l ∷ ls) (site ∷ sites) = IsBodyOf y u l site × AreBodiesOf y u ls sites

-- ---- the codes of a function

-- how the code of a directive is made
abbrev pub lane_manner : Definition → SignatureTree → Manner
lane_manner d s = lanes (lane_view (param_types d) s.params (first_point d) d.body)

-- the code of a directive
pub record IsLaneCodeOf (y : Symbols) (d : Definition) (s : SignatureTree) (c : Listing) : Type 0 where
  pub is : IsCodeOf y d.unit (lane_manner d s) (first_point d) d.body c
  pub short : IsShort c.routine (function_size d)

abbrev pub AreLaneCodesOf : Symbols → Definition → List SignatureTree → List Listing → Type 0
AreLaneCodesOf y d [] [] = Unit {0}
AreLaneCodesOf y d [] (c ∷ cs) = ⊥
AreLaneCodesOf y d (s ∷ ss) [] = ⊥
AreLaneCodesOf y d (s ∷ ss) (c ∷ cs) = IsLaneCodeOf y d s c × AreLaneCodesOf y d ss cs

-- the scalar code, the bodies of its simd loops, and a code for each directive
pub record AreCodesOf (y : Symbols) (d : Definition) (signatures : List SignatureTree) (c : CodeLists) : Type 0 where
  pub scalar : IsCodeOf y d.unit plain (first_point d) d.body c.scalar
  pub bodies : AreBodiesOf y d.unit (own_loops d) c.scalar.loops
  pub scalar_short : IsShort c.scalar.routine (function_size d)
  pub directives : AreLaneCodesOf y d signatures c.lanes

-- each function that the unit defines has such codes in the object
abbrev pub HasCodes : ObjectLists → Subject → Type 0
HasCodes o u = (text : List ℕ) (d : Definition) (r : FunctionLists) (c : CodeLists) →
    definition_in text u ≡ Some d → row_in o text ≡ Some r → r.codes ≡ Some c → AreCodesOf (symbols_of o) d (signatures_in text u) c
