-- Which units link, and which objects. Both are tables of names, of which the rules speak (C17 6.2.2, 6.2.7, 6.9).
use Rattle.std.specs.Prelude.{◌≡◌, ◌≤◌, ◌⊎◌, ℕ, true, List, [], ◌∷◌, ◌++◌, map, flat_map, length, slice_get, Option, Some, None, Contains}
use Rattle.std.specs.Option.{option_and_then}
use Rattle.vk_rules_book.specs.Rules.{Subject}
use Rattle.vk_rules_book.specs.Scopes.{text_of}
use Rattle.vk_meaning.specs.Programs.{Definition, first_point}
use Rattle.vk_code.specs.Listing.{CallSite, LoopBody, own, numbered, SimdSite}
use Rattle.vk_object.specs.Objects.{CodeLists, FunctionLists, ObjectLists}
use Rattle.vk_sites.specs.Bounds.{own_loops}
use Rattle.vk_sites.specs.Calls.{CallText, calls_of}
use Rattle.vk_sites.specs.Loops.{LoopText}
use Rattle.vk_agree.specs.Units.{definition_in}
use Rattle.vk_joins.specs.Codes.{callee_name, names_made, names_told, own_calls, symbols_of}
use Rattle.vk_joins.specs.Tables.{Data, Declared, data_in_unit, declared_in_unit, data_in_object, declared_in_object, row_in}

-- what a unit or an object tells: of each name its object or function, and of each function that it defines the names of the
-- functions that it calls and of the objects that it uses
pub record Table : Type 0 where
  pub object : (text : List ℕ) → Option Data
  pub function : (text : List ℕ) → Option Declared
  pub calls : (text : List ℕ) → List (List ℕ)
  pub uses : (text : List ℕ) → List (List ℕ)

-- ---- the rules

-- the table defines a function of this name, or an object
abbrev pub DefinesFunction : Table → (text : List ℕ) → Declared → Type 0
DefinesFunction t text d = (t.function text ≡ Some d) × (d.defined ≡ true)

abbrev pub DefinesObject : Table → (text : List ℕ) → Data → Type 0
DefinesObject t text d = (t.object text ≡ Some d) × (d.defined ≡ true)

abbrev pub Defines : Table → (text : List ℕ) → Type 0
Defines t text = ((d : Declared) × DefinesFunction t text d) ⊎ ((d : Data) × DefinesObject t text d)

-- the same types, `const` and length
pub record IsSameData (a b : Data) : Type 0 where
  pub ty : a.array.ty ≡ b.array.ty
  pub fixed : a.array.fixed ≡ b.array.fixed
  pub length : a.array.length ≡ b.array.length

pub record IsSameFunction (a b : Declared) : Type 0 where
  pub result : a.result ≡ b.result
  pub params : a.params ≡ b.params

-- a function of some table calls this function
abbrev pub CallsIn : List Table → (f g : List ℕ) → Type 0
CallsIn ts f g = (t : Table) × Contains ts t × Contains (t.calls f) g

-- each function of the list is called by the one before it
abbrev pub IsChainFrom : List Table → (f : List ℕ) → List (List ℕ) → Type 0
IsChainFrom ts f [] = Unit {0}
IsChainFrom ts f (g ∷ gs) = CallsIn ts f g × IsChainFrom ts g gs

-- no rule is broken on names that several tables have, and on chains of calls
pub record AreLinkable (ts : List Table) : Type 0 where
  -- what is called or used is defined
  pub called : (t : Table) → Contains ts t → (f g : List ℕ) → Contains (t.calls f) g → (u : Table) × Contains ts u × Defines u g
  pub used : (t : Table) → Contains ts t → (f x : List ℕ) → Contains (t.uses f) x → (u : Table) × Contains ts u × Defines u x
  -- a name is defined once
  pub once : (i j : ℕ) (t u : Table) → slice_get ts i ≡ Some t → slice_get ts j ≡ Some u → (text : List ℕ) → Defines t text → Defines u text → i ≡ j
  -- a declaration has the definition's kind, types, `const` and length
  pub functions : (t u : Table) → Contains ts t → Contains ts u → (text : List ℕ) (d e : Declared) → t.function text ≡ Some d → DefinesFunction u text e → IsSameFunction d e
  pub objects : (t u : Table) → Contains ts t → Contains ts u → (text : List ℕ) (d e : Data) → t.object text ≡ Some d → DefinesObject u text e → IsSameData d e
  pub kinds : (t u : Table) → Contains ts t → Contains ts u → (text : List ℕ) (d : Declared) (e : Data) → t.function text ≡ Some d → DefinesObject u text e → ⊥
  pub other_kinds : (t u : Table) → Contains ts t → Contains ts u → (text : List ℕ) (d : Data) (e : Declared) → t.object text ≡ Some d → DefinesFunction u text e → ⊥
  -- its directives are the definition's, or it has none
  pub directives : (t u : Table) → Contains ts t → Contains ts u → (text : List ℕ) (d e : Declared) → t.function text ≡ Some d → DefinesFunction u text e →
      (d.signatures ≡ []) ⊎ (d.signatures ≡ e.signatures)
  -- no chain of calls has more than 32 functions, so none comes back to itself
  pub chains : (f : List ℕ) (gs : List (List ℕ)) → IsChainFrom ts f gs → length (f ∷ gs) ≤ 32

-- ---- the table of a unit

abbrev pub callees_in : Subject → List CallText → List (List ℕ)
callees_in u cs = map (λ (c : CallText). text_of u.texts c.callee) (own_calls u cs)

-- the calls in the body of a simd loop
abbrev pub loop_calls : LoopText → List CallText
loop_calls l = calls_of l.inside true l.body

-- the calls in a body, outside its simd loops
abbrev pub body_calls : Definition → List CallText
body_calls d = calls_of (first_point d) true d.body

-- the functions that a definition calls
abbrev pub callees_of : Option Definition → List (List ℕ)
callees_of None = []
callees_of (Some d) = callees_in d.unit (body_calls d) ++ flat_map (λ (l : LoopText). callees_in d.unit (loop_calls l)) (own_loops d)

abbrev pub objects_used : Option Definition → List (List ℕ)
objects_used None = []
objects_used (Some d) = names_made d.unit (first_point d) d.body

abbrev pub table_of_unit : Subject → Table
table_of_unit u = record {
  object = data_in_unit u;
  function = declared_in_unit u;
  calls = λ text. callees_of (definition_in text u);
  uses = λ text. objects_used (definition_in text u);
}

-- no rule is broken by these units
abbrev pub DoUnitsLink : List Subject → Type 0
DoUnitsLink units = AreLinkable (map table_of_unit units)

-- ---- the table of an object

abbrev pub slot_names : ObjectLists → List CallSite → List (List ℕ)
slot_names o slots = map (callee_name (symbols_of o)) slots

abbrev pub loop_names : ObjectLists → LoopBody → List (List ℕ)
loop_names o (own c) = slot_names o c.slots
loop_names o (numbered number) = []

-- the codes of a function's directives have the slots of its scalar code
abbrev pub code_calls : ObjectLists → Option CodeLists → List (List ℕ)
code_calls o None = []
code_calls o (Some c) = slot_names o c.scalar.routine.slots ++ flat_map (λ (l : SimdSite). loop_names o l.body) c.scalar.loops

abbrev pub code_uses : ObjectLists → Option CodeLists → List (List ℕ)
code_uses o None = []
code_uses o (Some c) = names_told (symbols_of o) c.scalar

abbrev pub codes_in : ObjectLists → (text : List ℕ) → Option CodeLists
codes_in o text = option_and_then (λ (r : FunctionLists). r.codes) (row_in o text)

abbrev pub table_of_object : ObjectLists → Table
table_of_object o = record {
  object = data_in_object o;
  function = declared_in_object o;
  calls = λ text. code_calls o (codes_in o text);
  uses = λ text. code_uses o (codes_in o text);
}

-- no rule is broken by these objects
abbrev pub DoObjectsLink : List ObjectLists → Type 0
DoObjectsLink os = AreLinkable (map table_of_object os)
