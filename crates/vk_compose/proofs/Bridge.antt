-- Objects that link and carry units: then the units link, and an image that joins the objects carries the units.
use Rattle.std.proofs.Common.{◌≡◌, ℕ, Bool, true, false, cond, List, [], ◌∷◌, ◌++◌, map, flat_map, slice_get, Option, Some, None, is_some, refl, subst, sym, ap, ◌∙◌, ◌⊎◌, inl, inr, Contains, bytes_eq, codes}
use Rattle.std.specs.Option.{option_and_then, option_map, option_or}
use Rattle.std.proofs.lemmas.Option.{slice_get-map}
use Rattle.std.proofs.lemmas.Simd.{map-map}
use Rattle.std.proofs.lemmas.Slice.Eq.{bytes_eq-Decides}
use Rattle.vk_kinds.specs.declared.kinds.Isa.{Isa}
use Rattle.vk_kinds.specs.Sizes.{SignatureTree}
use Rattle.vk_ast.specs.Statements.{StmtTree}
use Rattle.vk_ast.specs.Units.{FunctionTree, ItemTree, function, object, lost_line}
use Rattle.vk_rules_book.specs.Rules.{Subject}
use Rattle.vk_rules_book.specs.Scopes.{text_of}
use Rattle.vk_meaning.specs.Points.{Point}
use Rattle.vk_meaning.specs.Programs.{Definition, defined_behind, first_point, with_body}
use Rattle.vk_code.specs.Listing.{CallSite, Routine, SimdSite}
use Rattle.vk_object.specs.Images.{is_image}
use Rattle.vk_object.specs.Objects.{CodeLists, FunctionLists, ObjectLists}
use Rattle.vk_object.specs.Tables.{Tables}
use Rattle.vk_sites.specs.Bounds.{own_loops}
use Rattle.vk_sites.specs.Calls.{CallText, calls_of}
use Rattle.vk_sites.specs.Loops.{LoopText}
use Rattle.vk_sites.specs.Shapes.{loop_view}
use Rattle.vk_agree.specs.Units.{IsAccepted, definition_in, first_of, function_in, function_named, signatures_in}
use Rattle.vk_joins.specs.Carries.{Pair, objects_of, units_of, AreCarried, ImageCarries, IsLinkOf}
use Rattle.vk_joins.specs.Codes.{AreBodiesOf, AreCodesOf, AreSame, Call, HasCodes, IsBodyOf, Manner, call_made, call_told, calls_made, calls_told, lanes, own_calls, plain, symbols_of}
use Rattle.vk_joins.specs.Joins.{Joins, IsChosen}
use Rattle.vk_joins.specs.Links.{AreLinkable, CallsIn, Defines, DefinesFunction, DefinesObject, DoObjectsLink, DoUnitsLink, IsChainFrom, IsSameData, IsSameFunction, Table, callees_in, callees_of, code_calls, code_uses, codes_in, loop_calls, loop_names, objects_used, slot_names, table_of_object, table_of_unit}
use Rattle.vk_joins.specs.Tables.{Data, Declared, HasTables, declared_as, declared_in_unit, declared_of_row, row_in}
use Rattle.vk_joins_laws.proofs.Accepted.{print_undefined}
use Rattle.vk_compose.proofs.Compose.{composes}
use Rattle.vk_joins_laws.proofs.Lists.{contains_map, get_unmap, here, later, unmap}

-- ---- tables that tell the same

pub record IsSameTable (t u : Table) : Type 0 where
  pub object : (text : List ℕ) → t.object text ≡ u.object text
  pub function : (text : List ℕ) → t.function text ≡ u.function text
  pub calls : (text : List ℕ) → t.calls text ≡ u.calls text
  pub uses : (text : List ℕ) → AreSame (t.uses text) (u.uses text)

-- two lists of tables, side by side
pub record Both : Type 0 where
  pub left : Table
  pub right : Table
  pub same : IsSameTable left right

abbrev lefts : List Both → List Table
lefts qs = map (λ (q : Both). q.left) qs

abbrev rights : List Both → List Table
rights qs = map (λ (q : Both). q.right) qs

left_of : (q : Both) (qs : List Both) → Contains qs q → Contains (lefts qs) q.left
left_of q qs h = contains_map (λ (x : Both). x.left) qs q h

right_of : (q : Both) (qs : List Both) → Contains qs q → Contains (rights qs) q.right
right_of q qs h = contains_map (λ (x : Both). x.right) qs q h

-- which defines a name
defines_function : (q : Both) (text : List ℕ) (d : Declared) → DefinesFunction q.right text d → DefinesFunction q.left text d
defines_function q text d h = (q.same.function text ∙ h.0, h.1)

defines_object : (q : Both) (text : List ℕ) (d : Data) → DefinesObject q.right text d → DefinesObject q.left text d
defines_object q text d h = (q.same.object text ∙ h.0, h.1)

defines_left : (q : Both) (text : List ℕ) → Defines q.right text → Defines q.left text
defines_left q text (inl h) = inl (h.0, defines_function q text h.0 h.1)
defines_left q text (inr h) = inr (h.0, defines_object q text h.0 h.1)

defines_right : (q : Both) (text : List ℕ) → Defines q.left text → Defines q.right text
defines_right q text (inl h) = inl (h.0, (sym (q.same.function text) ∙ h.1.0, h.1.1))
defines_right q text (inr h) = inr (h.0, (sym (q.same.object text) ∙ h.1.0, h.1.1))

-- some table on the right defines it
abbrev SomeDefines : List Table → List ℕ → Type 0
SomeDefines ts g = (u : Table) × Contains ts u × Defines u g

some_defines : (qs : List Both) (g : List ℕ) → SomeDefines (lefts qs) g → SomeDefines (rights qs) g
some_defines qs g h =
    let x = unmap (λ (q : Both). q.left) qs h.0 h.1 in
    (x.of.right, right_of x.of qs x.among, defines_right x.of g (subst (λ (t : Table). Defines t g) (sym x.is) h.2))

-- what holds of each right table of a pair holds of each table on the right
each_right : (P : Table → Type 0) (qs : List Both) → ((q : Both) → Contains qs q → P q.right) → (t : Table) → Contains (rights qs) t → P t
each_right P qs f t h = let x = unmap (λ (q : Both). q.right) qs t h in subst P x.is (f x.of x.among)

calls_left : (qs : List Both) (f g : List ℕ) → CallsIn (rights qs) f g → CallsIn (lefts qs) f g
calls_left qs f g h =
    each_right (λ (t : Table). Contains (t.calls f) g → CallsIn (lefts qs) f g) qs
    (λ q k c. (q.left, left_of q qs k, subst (λ (xs : List (List ℕ)). Contains xs g) (sym (q.same.calls f)) c)) h.0 h.1 h.2

chain_left : (qs : List Both) (f : List ℕ) (gs : List (List ℕ)) → IsChainFrom (rights qs) f gs → IsChainFrom (lefts qs) f gs
chain_left qs f [] h = tt
chain_left qs f (g ∷ gs) h = (calls_left qs f g h.0, chain_left qs g gs h.1)

once_right : (qs : List Both) → AreLinkable (lefts qs) → (i j : ℕ) (t u : Table) → slice_get (rights qs) i ≡ Some t → slice_get (rights qs) j ≡ Some u → (text : List ℕ) → Defines t text → Defines u text → i ≡ j
once_right qs links i j t u a b text h k =
    let x = get_unmap (λ (q : Both). q.right) qs i t a in
    let y = get_unmap (λ (q : Both). q.right) qs j u b in
    links.once i j x.of.left y.of.left (slice_get-map (λ (q : Both). q.left) qs i ∙ ap (option_map (λ (q : Both). q.left)) x.at)
    (slice_get-map (λ (q : Both). q.left) qs j ∙ ap (option_map (λ (q : Both). q.left)) y.at) text
    (defines_left x.of text (subst (λ (v : Table). Defines v text) (sym x.is) h)) (defines_left y.of text (subst (λ (v : Table). Defines v text) (sym y.is) k))

-- two tables on the right
two_right : (P : Table → Table → Type 0) (qs : List Both) → ((q r : Both) → Contains qs q → Contains qs r → P q.right r.right) → (t u : Table) → Contains (rights qs) t → Contains (rights qs) u → P t u
two_right P qs f t u h k = each_right (λ (v : Table). P v u) qs (λ q a. each_right (λ (w : Table). P q.right w) qs (λ r b. f q r a b) u k) t h

-- tables that tell the same as tables that link, link
pub linkable_right : (qs : List Both) → AreLinkable (lefts qs) → AreLinkable (rights qs)
linkable_right qs links = record {
  called = λ t h. each_right (λ (t : Table). (f g : List ℕ) → Contains (t.calls f) g → SomeDefines (rights qs) g) qs
      (λ q k f g c. some_defines qs g (links.called q.left (left_of q qs k) f g (subst (λ (xs : List (List ℕ)). Contains xs g) (sym (q.same.calls f)) c))) t h;
  used = λ t h. each_right (λ (t : Table). (f g : List ℕ) → Contains (t.uses f) g → SomeDefines (rights qs) g) qs
      (λ q k f g c. some_defines qs g (links.used q.left (left_of q qs k) f g ((q.same.uses f).back g c))) t h;
  once = once_right qs links;
  functions = two_right (λ t u. (text : List ℕ) (d e : Declared) → t.function text ≡ Some d → DefinesFunction u text e → IsSameFunction d e) qs
      (λ q r a b text d e x y. links.functions q.left r.left (left_of q qs a) (left_of r qs b) text d e (q.same.function text ∙ x) (defines_function r text e y));
  objects = two_right (λ t u. (text : List ℕ) (d e : Data) → t.object text ≡ Some d → DefinesObject u text e → IsSameData d e) qs
      (λ q r a b text d e x y. links.objects q.left r.left (left_of q qs a) (left_of r qs b) text d e (q.same.object text ∙ x) (defines_object r text e y));
  kinds = two_right (λ t u. (text : List ℕ) (d : Declared) (e : Data) → t.function text ≡ Some d → DefinesObject u text e → ⊥) qs
      (λ q r a b text d e x y. links.kinds q.left r.left (left_of q qs a) (left_of r qs b) text d e (q.same.function text ∙ x) (defines_object r text e y));
  other_kinds = two_right (λ t u. (text : List ℕ) (d : Data) (e : Declared) → t.object text ≡ Some d → DefinesFunction u text e → ⊥) qs
      (λ q r a b text d e x y. links.other_kinds q.left r.left (left_of q qs a) (left_of r qs b) text d e (q.same.object text ∙ x) (defines_function r text e y));
  directives = two_right (λ t u. (text : List ℕ) (d e : Declared) → t.function text ≡ Some d → DefinesFunction u text e → (d.signatures ≡ []) ⊎ (d.signatures ≡ e.signatures)) qs
      (λ q r a b text d e x y. links.directives q.left r.left (left_of q qs a) (left_of r qs b) text d e (q.same.function text ∙ x) (defines_function r text e y));
  chains = λ f gs h. links.chains f gs (chain_left qs f gs h);
}

-- ---- the table of an object that carries a unit

-- the calls that a code's slots tell are those of its text
told_names : (o : ObjectLists) (slots : List CallSite) → map (λ (c : Call). c.callee) (map (call_told (symbols_of o)) slots) ≡ slot_names o slots
told_names o slots = map-map (λ (c : Call). c.callee) (call_told (symbols_of o)) slots

made_names : (u : Subject) (m : Manner) (cs : List CallText) → map (λ (c : Call). c.callee) (map (call_made u m) (own_calls u cs)) ≡ callees_in u cs
made_names u plain cs = map-map (λ (c : Call). c.callee) (call_made u plain) (own_calls u cs)
made_names u (lanes v) cs = map-map (λ (c : Call). c.callee) (call_made u (lanes v)) (own_calls u cs)

same_names : (o : ObjectLists) (u : Subject) (m : Manner) (p : Point) (body : StmtTree) (c : Routine) → calls_told (symbols_of o) c ≡ calls_made u m p body → slot_names o c.slots ≡ callees_in u (calls_of p true body)
same_names o u m p body c h = sym (told_names o c.slots) ∙ (ap (map (λ (c : Call). c.callee)) h ∙ made_names u m (calls_of p true body))

body_is : (o : ObjectLists) (u : Subject) (l : LoopText) (site : SimdSite) → IsBodyOf (symbols_of o) u l site → loop_names o site.body ≡ callees_in u (loop_calls l)
body_is o u l site h = ap (loop_names o) h.own_code ∙ same_names o u (lanes (loop_view l)) l.inside l.body h.code h.calls

bodies_are : (o : ObjectLists) (u : Subject) (ls : List LoopText) (sites : List SimdSite) → AreBodiesOf (symbols_of o) u ls sites →
    flat_map (λ (l : SimdSite). loop_names o l.body) sites ≡ flat_map (λ (l : LoopText). callees_in u (loop_calls l)) ls
bodies_are o u [] [] h = refl
bodies_are o u [] (site ∷ sites) h = absurd h
bodies_are o u (l ∷ ls) [] h = absurd h
bodies_are o u (l ∷ ls) (site ∷ sites) h = λ i. body_is o u l site h.0 i ++ bodies_are o u ls sites h.1 i

-- a function is defined
pub is_defined : Option Declared → Bool
is_defined None = false
is_defined (Some d) = d.defined

pub defined_by : (t : Table) (g : List ℕ) (e : Declared) → DefinesFunction t g e → is_defined (t.function g) ≡ true
unfolding is_defined
defined_by t g e h = ap is_defined h.0 ∙ h.1

row_defined : (r : Option FunctionLists) → is_defined (option_map declared_of_row r) ≡ is_some (option_and_then (λ (x : FunctionLists). x.codes) r)
unfolding is_defined
row_defined None = refl
row_defined (Some r) = refl

-- where no function of the name is declared none is defined
none_declared_at : (text : List ℕ) (u : Subject) (f : FunctionTree) (before rest : List ItemTree) (b : Bool) → option_or (cond b (Some f) None) (first_of (function_named text u) rest) ≡ None →
    (first_of (function_named text u) rest ≡ None → defined_behind text u before rest ≡ None) → option_or (cond b (with_body u before f f.body) None) (defined_behind text u before rest) ≡ None
none_declared_at text u f before rest true k next = cc
none_declared_at text u f before rest false k next = next k

none_declared : (text : List ℕ) (u : Subject) (before rest : List ItemTree) → first_of (function_named text u) rest ≡ None → defined_behind text u before rest ≡ None
none_declared text u before [] h = refl
none_declared text u before (function f ∷ rest) h = none_declared_at text u f (before ++ function f ∷ []) rest (bytes_eq (text_of u.texts f.name) text) h (λ k. none_declared text u (before ++ function f ∷ []) rest k)
none_declared text u before (object o ∷ rest) h = none_declared text u (before ++ object o ∷ []) rest h
none_declared text u before (lost_line d ∷ rest) h = none_declared text u (before ++ lost_line d ∷ []) rest h

-- a unit defines a function
declared_at : (u : Subject) (text : List ℕ) (f : Option FunctionTree) → function_in text u ≡ f → is_defined (option_map (declared_as u text) f) ≡ is_some (definition_in text u)
unfolding is_defined
declared_at u text None e = sym (ap is_some (none_declared text u [] u.items e))
declared_at u text (Some f) e = refl

unit_defined_at : (u : Subject) (text : List ℕ) → IsAccepted u → (b : Bool) → bytes_eq text (codes "print") ≡ b →
    is_defined (cond b None (option_map (declared_as u text) (function_in text u))) ≡ is_some (definition_in text u)
unfolding is_defined
unit_defined_at u text a true e = sym (ap is_some (subst (λ (t : List ℕ). definition_in t u ≡ None) (sym ((bytes_eq-Decides text (codes "print")).0 e)) (print_undefined u a)))
unit_defined_at u text a false e = declared_at u text (function_in text u) refl

pub unit_defined : (u : Subject) (text : List ℕ) → IsAccepted u → is_defined (declared_in_unit u text) ≡ is_some (definition_in text u)
unit_defined u text a = unit_defined_at u text a (bytes_eq text (codes "print")) refl

-- an object has codes of the functions that its unit defines
pub both_defined : (o : ObjectLists) (u : Subject) (text : List ℕ) → IsAccepted u → HasTables o u → is_some (codes_in o text) ≡ is_some (definition_in text u)
both_defined o u text a h = sym (row_defined (row_in o text)) ∙ (ap is_defined (h.functions text) ∙ unit_defined u text a)

-- what a function's codes call and use
pub record TellsSame (o : ObjectLists) (c : Option CodeLists) (d : Option Definition) : Type 0 where
  pub calls : code_calls o c ≡ callees_of d
  pub uses : AreSame (code_uses o c) (objects_used d)

tells_codes : (o : ObjectLists) (d : Definition) (ss : List SignatureTree) (c : CodeLists) → AreCodesOf (symbols_of o) d ss c → TellsSame o (Some c) (Some d)
tells_codes o d ss c h = record {
  calls = λ i. same_names o d.unit plain (first_point d) d.body c.scalar.routine h.scalar.calls i ++ bodies_are o d.unit (own_loops d) c.scalar.loops h.bodies i;
  uses = h.scalar.names;
}

nothing_told : (o : ObjectLists) → TellsSame o None None
nothing_told o = record { calls = refl; uses = record { there = λ t h. h; back = λ t h. h } }

tells_at : (o : ObjectLists) (u : Subject) (text : List ℕ) → HasCodes o u → (r : Option FunctionLists) → row_in o text ≡ r → (c : Option CodeLists) → option_and_then (λ (x : FunctionLists). x.codes) r ≡ c →
    (d : Option Definition) → definition_in text u ≡ d → is_some c ≡ is_some d → TellsSame o c d
tells_at o u text h r a None b None e k = nothing_told o
tells_at o u text h r a None b (Some d) e k = cc
tells_at o u text h r a (Some c) b None e k = cc
tells_at o u text h None a (Some c) b (Some d) e k = cc
tells_at o u text h (Some r) a (Some c) b (Some d) e k = tells_codes o d (signatures_in text u) c (h text d r c e a b)

tells : (o : ObjectLists) (u : Subject) (text : List ℕ) → IsAccepted u → HasTables o u → HasCodes o u → TellsSame o (codes_in o text) (definition_in text u)
tells o u text a t h = tells_at o u text h (row_in o text) refl (codes_in o text) refl (definition_in text u) refl (both_defined o u text a t)

pub same_table : (o : ObjectLists) (u : Subject) → IsAccepted u → HasTables o u → HasCodes o u → IsSameTable (table_of_object o) (table_of_unit u)
same_table o u a t h = record {
  object = t.objects;
  function = t.functions;
  calls = λ text. (tells o u text a t h).calls;
  uses = λ text. (tells o u text a t h).uses;
}

-- ---- all of them

pub record Sides (ps : List Pair) : Type 0 where
  pub both : List Both
  pub left : map table_of_object (objects_of ps) ≡ lefts both
  pub right : map table_of_unit (units_of ps) ≡ rights both

sides : (ps : List Pair) → AreCarried ps → Sides ps
sides [] h = record { both = []; left = refl; right = refl }
sides (p ∷ ps) h =
    let r = sides ps (λ q k. h q (later p q ps k)) in
    let g = h p (here p ps) in
    let b : Both = record { left = table_of_object p.object; right = table_of_unit p.unit; same = same_table p.object p.unit g.0 g.1.tables g.1.codes } in
    record { both = b ∷ r.both; left = ap (λ (ts : List Table). table_of_object p.object ∷ ts) r.left; right = ap (λ (ts : List Table). table_of_unit p.unit ∷ ts) r.right }

-- THE LINK: objects that link, of accepted units that they carry, are of units that link
pub units_link : (ps : List Pair) → AreCarried ps → DoObjectsLink (objects_of ps) → DoUnitsLink (units_of ps)
units_link ps h k =
    let s = sides ps h in
    subst AreLinkable (sym s.right) (linkable_right s.both (subst AreLinkable s.left k))

-- THE THEOREM OF LINKING: an image that joins objects which break no rule, with the chosen targets and lanes, carries all accepted units
-- that the objects carry
pub link_carries : (ps : List Pair) (image : Tables) → is_image image ≡ true → AreCarried ps → DoObjectsLink (objects_of ps) → Joins image (objects_of ps) → IsChosen image (objects_of ps) → ImageCarries image (units_of ps)
link_carries ps image valid h links joins chosen = record {
  pairs = ps;
  units_are = refl;
  carried = λ p k. (h p k).1;
  valid = valid;
  joins = joins;
  chosen = chosen;
  agree = composes ps image valid h joins (units_link ps h links);
}

-- what a linker promises follows from what it builds
pub links : (isa : Isa) (vl : ℕ) (need_main : Bool) (os : List ObjectLists) (image : Tables) → is_image image ≡ true → DoObjectsLink os → Joins image os → IsChosen image os →
    image.isa ≡ isa → image.vl ≡ vl → (need_main ≡ true → is_some image.main ≡ true) → IsLinkOf isa vl need_main os image
links isa vl need_main os image valid k joins chosen i v m = record {
  isa_is = i;
  vl_is = v;
  main = m;
  links = k;
  joins = joins;
  chosen = chosen;
  valid = valid;
  carries = λ ps e h. link_carries ps image valid h (subst DoObjectsLink (sym e) k) (subst (Joins image) (sym e) joins) (subst (IsChosen image) (sym e) chosen);
}
