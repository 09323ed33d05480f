-- Units that link agree on objects, and what a text names is defined.
use Rattle.std.proofs.Common.{◌≡◌, inl, inr, ℕ, zero, suc, Bool, true, false, cond, List, [], ◌∷◌, map, flat_map, filter_map, Contains, Option, Some, None, is_some, refl, sym, ap, subst, ◌∙◌, arith}
use Rattle.std.specs.Option.{option_map, option_or}
use Rattle.vk_types.specs.declared.types.Ty.{Ty}
use Rattle.vk_ast.specs.declared.names.NameId.{NameId}
use Rattle.vk_ast.specs.declared.items.ParamDecl.{ParamDecl}
use Rattle.vk_ast.specs.Units.{ItemTree, ObjectTree, function, object, lost_line}
use Rattle.vk_rules_book.specs.Rules.{Subject}
use Rattle.vk_rules_book.specs.Scopes.{Meaning, Scope, an_object, declared_meaning, file_meaning, file_scope, first_declaration, is_print, printer, text_of, with_param, with_params}
use Rattle.vk_meaning.specs.World.{Array}
use Rattle.vk_meaning.specs.Programs.{Definition, array_defined, arrays_of, first_point}
use Rattle.vk_meaning_accepted.specs.Linked.{AgreeOnConsts}
use Rattle.vk_code.specs.Listing.{Listing}
use Rattle.vk_object.specs.Tables.{EntryLists, Tables}
use Rattle.vk_sites.specs.Objects.{objects_of as objects_named}
use Rattle.vk_agree.specs.Units.{IsAccepted, definition_in, first_of}
use Rattle.vk_joins.specs.Carries.{AreAccepted, Pair, units_of}
use Rattle.vk_joins.specs.Links.{Defines, DoUnitsLink, IsSameData, Table, objects_used, table_of_unit}
use Rattle.vk_joins.specs.Tables.{Data, array_in, data_by, data_in_unit, declared_array, object_named, trimmed_array}
use Rattle.vk_joins_laws.proofs.Arrays.{look, look_order, look_units}
use Rattle.vk_joins_laws.proofs.Lists.{contains_map, found, unmap}
use Rattle.vk_settings.specs.Programs.{ObjectsAreArrays, running_setting}
use Rattle.vk_settings.proofs.Heads.{defined_in_unit}
use Rattle.vk_linked_objects.proofs.Declared.{TellsObject, first_before, tells_object}
use Rattle.vk_linked_objects.proofs.Numbered.{IsNumbered, looked, numbered}

-- the arrays of units, by name
look_arrays : (t : List ℕ) (units : List Subject) → look t (arrays_of units) ≡ first_of (array_in t) units
look_arrays t units = look_order t (flat_map (λ (u : Subject). filter_map (array_defined u) u.items) units) ∙ look_units t units

-- what a unit tells that defines the array
data_defined : (u : Subject) (t : List ℕ) (a : Array) → array_in t u ≡ Some a → data_in_unit u t ≡ Some (record { array = trimmed_array a; defined = true })
data_defined u t a e = ap (λ (o : Option Array). data_by o (option_map (declared_array u) (first_of (object_named t u) u.items))) e

module _ (units : List Subject) (links : DoUnitsLink units) where
  unit_in : (u : Subject) → Contains units u → Contains (map table_of_unit units) (table_of_unit u)
  unit_in u h = contains_map table_of_unit units u h

  -- A declaration tells the defined array, wherever that is.
  same_data : (u : Subject) → Contains units u → (t : List ℕ) (d : Data) → data_in_unit u t ≡ Some d → (a : Array) → first_of (array_in t) units ≡ Some a →
      IsSameData d (record { array = trimmed_array a; defined = true })
  same_data u u_in t d e a f =
      let n = found (array_in t) units a f in
      links.objects (table_of_unit u) (table_of_unit n.of) (unit_in u u_in) (unit_in n.of n.among) t d (record { array = trimmed_array a; defined = true }) e (data_defined n.of t a n.is, refl)

  some_first : (us : List Subject) (t : List ℕ) (w : Subject) → Contains us w → is_some (array_in t w) ≡ true → is_some (first_of (array_in t) us) ≡ true
  some_first [] t w (k, lt, at) e = absurd (omega (arith, lt))
  some_first (v ∷ us) t w (zero, lt, at) e = left (array_in t v) (first_of (array_in t) us) (ap (λ (x : Subject). is_some (array_in t x)) at ∙ e)
    where
      left : (x y : Option Array) → is_some x ≡ true → is_some (option_or x y) ≡ true
      left (Some x) y h = refl
      left None y h = cc
  some_first (v ∷ us) t w (suc k, lt, at) e = right (array_in t v) (first_of (array_in t) us) (some_first us t w (k, omega (arith, lt), at) e)
    where
      right : (x y : Option Array) → is_some y ≡ true → is_some (option_or x y) ≡ true
      right (Some x) y h = refl
      right None y h = h

  defined_data : (a d : Option Array) (e : Data) → data_by a d ≡ Some e → e.defined ≡ true → is_some a ≡ true
  defined_data (Some a) d e h k = refl
  defined_data None None e h k = cc
  defined_data None (Some b) e h k = absurd (no (ap (λ (x : Data). x.defined) (same h) ∙ k))
    where
      no : false ≡ true → ⊥
      no x = cc

      same : Some (record { array = b; defined = false }) ≡ Some e → record { array = b; defined = false } ≡ e
      same x = cc

-- ---- `const` objects

pub consts_agree : (ps : List Pair) → AreAccepted ps → DoUnitsLink (units_of ps) → AgreeOnConsts (units_of ps)
consts_agree ps accepted links = record {
  fixed = λ u u_in id o first fixed there.
      let w = unmap (λ (q : Pair). q.unit) ps u u_in in
      let t = tells_object u (subst IsAccepted w.is (accepted w.of w.among)) id o first in
      let l = looked (text_of u.texts id) (arrays_of (units_of ps)) there in
      let n = numbered (text_of u.texts id) (arrays_of (units_of ps)) l.array l.is in
      let s = same_data (units_of ps) links u u_in (text_of u.texts id) t.row t.is l.array (sym (look_arrays (text_of u.texts id) (units_of ps)) ∙ l.is) in
      ap (λ (a : Array). a.fixed) n.is ∙ (sym s.fixed ∙ (t.fixed ∙ fixed));
}

-- ---- file scope

param_file : (scope : Scope) (o : Option NameId) (p : ParamDecl) → (with_param scope o p).file ≡ scope.file
param_file scope None p = refl
param_file scope (Some id) p = refl

params_file : (scope : Scope) (ps : List ParamDecl) → (with_params scope ps).file ≡ scope.file
unfolding with_params
params_file scope [] = refl
params_file scope (p ∷ ps) = params_file (with_param scope p.name p) ps ∙ param_file scope p.name p

file_is : (d : Definition) → (first_point d).scope.file ≡ file_meaning d.unit.texts d.items
file_is d = params_file (file_scope d.unit.texts d.items) d.function.params

-- a name that means an object is first declared as one
record IsObjectMeant (items : List ItemTree) (id : NameId) (ty : Ty) (is_array fixed : Bool) : Type 0 where
  declared : ObjectTree
  first : first_declaration items id ≡ Some (object declared)
  ty_is : declared.ty ≡ ty
  array_is : is_some declared.array ≡ is_array
  fixed_is : declared.fixed ≡ fixed

object_meant : (texts : List (List ℕ)) (items : List ItemTree) (id : NameId) (ty : Ty) (is_array fixed : Bool) → file_meaning texts items id ≡ Some (an_object ty is_array fixed) → IsObjectMeant items id ty is_array fixed
object_meant texts items id ty is_array fixed e = at (is_print texts id) e
  where
    by : (f : Option ItemTree) → first_declaration items id ≡ f → declared_meaning f ≡ Some (an_object ty is_array fixed) → IsObjectMeant items id ty is_array fixed
    by None k h = cc
    by (Some (function g)) k h = cc
    by (Some (lost_line l)) k h = cc
    by (Some (object o)) k h = record { declared = o; first = k; ty_is = cc; array_is = cc; fixed_is = cc }

    at : (b : Bool) → cond b (Some printer) (declared_meaning (first_declaration items id)) ≡ Some (an_object ty is_array fixed) → IsObjectMeant items id ty is_array fixed
    at true h = cc
    at false h = by (first_declaration items id) refl h

-- ---- the objects that a text names

-- an array of the program, as an object is declared
record IsThere (units : List Subject) (t : List ℕ) (o : ObjectTree) : Type 0 where
  array : Array
  numbered_so : IsNumbered (arrays_of units) t array
  ty_is : array.ty ≡ o.ty
  fixed_is : array.fixed ≡ o.fixed
  scalar : is_some o.array ≡ false → array.length ≡ 1

module _ (ps : List Pair) (accepted : AreAccepted ps) (links : DoUnitsLink (units_of ps)) (p : Pair) (p_in : Contains ps p) where
  abbrev units : List Subject
  units = units_of ps

  own_in : Contains units p.unit
  own_in = contains_map (λ (q : Pair). q.unit) ps p p_in

  -- what is declared as an object, and defined, is defined as an object
  defined_so : (t : List ℕ) (d : Data) → data_in_unit p.unit t ≡ Some d → (x : Table) → Contains (map table_of_unit units) x → Defines x t → is_some (first_of (array_in t) units) ≡ true
  defined_so t d told x x_in (inl (e, defines)) = absurd (links.other_kinds (table_of_unit p.unit) x (unit_in units links p.unit own_in) x_in t d e told defines)
  defined_so t d told x x_in (inr (e, defines)) =
      let a = unmap table_of_unit units x x_in in
      some_first units links units t a.of a.among
      (defined_data units links (array_in t a.of) (option_map (declared_array a.of) (first_of (object_named t a.of) a.of.items)) e
      (subst (λ (y : Table). y.object t ≡ Some e) (sym a.is) defines.0) defines.1)

  there : (id : NameId) (o : ObjectTree) → first_declaration p.unit.items id ≡ Some (object o) → (x : Table) → Contains (map table_of_unit units) x → Defines x (text_of p.unit.texts id) → IsThere units (text_of p.unit.texts id) o
  there id o first x x_in defines = at (first_of (array_in t) units) refl (defined_so t told.row told.is x x_in defines)
    where
      t : List ℕ
      t = text_of p.unit.texts id

      told : TellsObject p.unit t o
      told = tells_object p.unit (accepted p p_in) id o first

      at : (f : Option Array) → first_of (array_in t) units ≡ f → is_some f ≡ true → IsThere units t o
      at None e h = cc
      at (Some a) e h =
          let s = same_data units links p.unit own_in t told.row told.is a e in
          record {
            array = a;
            numbered_so = numbered t (arrays_of units) a (look_arrays t units ∙ e);
            ty_is = sym s.ty ∙ told.ty;
            fixed_is = sym s.fixed ∙ told.fixed;
            scalar = λ k. sym s.length ∙ told.scalar k;
          }

  -- THE OBJECTS: what a definition names is an array of the type that its unit declares
  pub objects_are : (text : List ℕ) (d : Definition) → definition_in text p.unit ≡ Some d → (image : Tables) (turns : ℕ) (x : EntryLists) (code : Listing) →
      ObjectsAreArrays d (objects_named (first_point d) d.body) (running_setting ps image turns d x code)
  objects_are text d defined image turns x code id ty is_array fixed among means =
      let u = defined_in_unit text p.unit d defined in
      let m = object_meant d.unit.texts d.items id ty is_array fixed (sym (ap (λ (f : NameId → Option Meaning). f id) (file_is d)) ∙ means) in
      let n =
      links.used (table_of_unit p.unit) (unit_in units links p.unit own_in) text (text_of d.unit.texts id)
      (subst (λ (o : Option Definition). Contains (objects_used o) (text_of d.unit.texts id)) (sym defined) (contains_map (text_of d.unit.texts) (objects_named (first_point d) d.body) id among)) in
      let first : first_declaration p.unit.items id ≡ Some (object m.declared) = subst (λ (xs : List ItemTree). first_declaration xs id ≡ Some (object m.declared)) (sym u.prefix) (first_before d.items u.behind id (object m.declared) m.first) in
      let a =
      subst (λ (v : Subject). IsThere units (text_of v.texts id) m.declared) (sym u.unit_is)
      (there id m.declared first n.0 n.1 (subst (λ (v : Subject). Defines n.0 (text_of v.texts id)) u.unit_is n.2)) in
      record {
        there = a.numbered_so.there;
        elements = ap (λ (y : Array). y.ty) a.numbered_so.is ∙ (a.ty_is ∙ m.ty_is);
        const = ap (λ (y : Array). y.fixed) a.numbered_so.is ∙ (a.fixed_is ∙ m.fixed_is);
        scalar = λ h. ap (λ (y : Array). y.length) a.numbered_so.is ∙ a.scalar (m.array_is ∙ h);
      }
