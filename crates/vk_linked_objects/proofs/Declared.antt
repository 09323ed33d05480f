-- What an accepted unit tells of an object that it declares: all its declarations of one name are of the same type.
use Rattle.std.proofs.Common.{◌≡◌, ℕ, zero, suc, Bool, true, false, cond, ◌&&◌, ◌||◌, not, List, [], ◌∷◌, ◌++◌, Contains, Option, Some, None, is_some, is_none, unwrap_or, bytes_eq, rules, refl, sym, ap, subst, ◌∙◌, arith}
use Rattle.std.specs.List.{AllByRecursion, list_any}
use Rattle.std.specs.Option.{option_and_then, option_map, option_or}
use Rattle.std.proofs.lemmas.Bool.Decides.{Decides-eqb}
use Rattle.std.proofs.lemmas.List.{append-nil, append_assoc}
use Rattle.std.proofs.lemmas.Slice.Eq.{bytes_eq-Decides}
use Rattle.vk_types.specs.declared.types.Ty.{Ty}
use Rattle.vk_ast.specs.declared.names.NameId.{NameId}
use Rattle.vk_ast.specs.Tree.{Tree}
use Rattle.vk_ast.specs.Units.{ItemTree, ObjectTree, function, object, lost_line}
use Rattle.vk_rules_book.specs.Items.{agrees, defines, disagrees, given_length, length_of, lengths_differ}
use Rattle.vk_rules_book.specs.Rules.{Subject, faults_of}
use Rattle.vk_rules_book.specs.Scopes.{declares, first_declaration, same_name, text_of}
use Rattle.vk_rules_book.specs.Typings.{same_type}
use Rattle.vk_rules_book.specs.Visits.{along, item, item_visits}
use Rattle.vk_rules_laws.proofs.Each.{IsQuiet, back, unit_quiet}
use Rattle.vk_meaning.specs.World.{Array}
use Rattle.vk_meaning.specs.Programs.{array_of_object}
use Rattle.vk_agree.specs.Units.{IsAccepted, first_of}
use Rattle.vk_joins.specs.Tables.{Data, array_if_named, array_in, array_named, data_by, data_in_unit, declared_array, object_named, trimmed_array}
use Rattle.vk_joins_laws.proofs.Accepted.{not_again}
use Rattle.vk_joins_laws.proofs.Lists.{both_first, both_second, found, here, later}

-- ---- two declarations

pub record IsSame (o p : ObjectTree) : Type 0 where
  pub ty : o.ty ≡ p.ty
  pub fixed : o.fixed ≡ p.fixed
  pub array : is_some o.array ≡ is_some p.array

type_is : (s t : Ty) → same_type s t ≡ true → s ≡ t
type_is s t h = search rules

same_flag : (a b : Bool) → cond a b (not b) ≡ true → a ≡ b
same_flag true b k = sym k
same_flag false true k = cc
same_flag false false k = refl

same_some : (a b : Option (Option Tree)) → cond (is_some a) (is_some b) (is_none b) ≡ true → is_some a ≡ is_some b
same_some None None h = refl
same_some None (Some b) h = cc
same_some (Some a) None h = cc
same_some (Some a) (Some b) h = refl

same_itself : (o : ObjectTree) → IsSame o o
same_itself o = record { ty = refl; fixed = refl; array = refl }

agreed : (o p : ObjectTree) → agrees (object o) (object p) ≡ true → IsSame o p
agreed o p h =
    let types : Bool = same_type o.ty p.ty in
    let consts : Bool = cond o.fixed p.fixed (not p.fixed) in
    let arrays : Bool = cond (is_some o.array) (is_some p.array) (is_none p.array) in
    let lengths : Bool = not (lengths_differ (length_of o) (length_of p)) in
    let first : (types && consts) ≡ true = both_first (types && consts) (arrays && lengths) h in
    record {
      ty = type_is o.ty p.ty (both_first types consts first);
      fixed = same_flag o.fixed p.fixed (both_second types consts first);
      array = same_some o.array p.array (both_first arrays lengths (both_second (types && consts) (arrays && lengths) h));
    }

-- ---- the first declaration

pub record IsDeclared (xs : List ItemTree) (id : NameId) (i : ItemTree) : Type 0 where
  pub among : Contains xs i
  pub declared : declares id i ≡ true

declared_later : (j : ItemTree) (xs : List ItemTree) (id : NameId) (i : ItemTree) → IsDeclared xs id i → IsDeclared (j ∷ xs) id i
declared_later j xs id i h = record { among = later j i xs h.among; declared = h.declared }

declared_here : (xs : List ItemTree) (id : NameId) (j i : ItemTree) → j ≡ i → declares id j ≡ true → IsDeclared (j ∷ xs) id i
declared_here xs id j i e h = subst (λ (k : ItemTree). IsDeclared (j ∷ xs) id k) e (record { among = here j xs; declared = h })

some_item : (a b : ItemTree) → Some a ≡ Some b → a ≡ b
some_item a b k = cc

pub declaration : (xs : List ItemTree) (id : NameId) (i : ItemTree) → first_declaration xs id ≡ Some i → IsDeclared xs id i
unfolding first_declaration
declaration [] id i e = cc
declaration (j ∷ xs) id i e = at (declares id j) refl e (λ k. declaration xs id i k)
  where
    at : (b : Bool) → declares id j ≡ b → cond b (Some j) (first_declaration xs id) ≡ Some i → (first_declaration xs id ≡ Some i → IsDeclared xs id i) → IsDeclared (j ∷ xs) id i
    at true k q next = declared_here xs id j i (some_item j i q) k
    at false k q next = declared_later j xs id i (next q)

-- it is the same where more items stand behind
pub first_before : (xs ys : List ItemTree) (id : NameId) (i : ItemTree) → first_declaration xs id ≡ Some i → first_declaration (xs ++ ys) id ≡ Some i
unfolding first_declaration
first_before [] ys id i e = cc
first_before (x ∷ xs) ys id i e = at (declares id x) e (λ k. first_before xs ys id i k)
  where
    at : (b : Bool) → cond b (Some x) (first_declaration xs id) ≡ Some i → (first_declaration xs id ≡ Some i → first_declaration (xs ++ ys) id ≡ Some i) → cond b (Some x) (first_declaration (xs ++ ys) id) ≡ Some i
    at true q next = q
    at false q next = next q

first_there : (xs ys : List ItemTree) (id : NameId) (i : ItemTree) → first_declaration xs id ≡ None → declares id i ≡ true → first_declaration (xs ++ i ∷ ys) id ≡ Some i
unfolding first_declaration
first_there [] ys id i e h = ap (λ (b : Bool). cond b (Some i) (first_declaration ys id)) h
first_there (x ∷ xs) ys id i e h = at (declares id x) e (λ k. first_there xs ys id i k h)
  where
    at : (b : Bool) → cond b (Some x) (first_declaration xs id) ≡ None → (first_declaration xs id ≡ None → first_declaration (xs ++ i ∷ ys) id ≡ Some i) → cond b (Some x) (first_declaration (xs ++ i ∷ ys) id) ≡ Some i
    at true q next = cc
    at false q next = next q

-- ---- items in their places

record StandsIn (items : List ItemTree) (i : ItemTree) : Type 0 where
  before : List ItemTree
  behind : List ItemTree
  split : items ≡ before ++ i ∷ behind

stands_in : (items : List ItemTree) (i : ItemTree) → Contains items i → StandsIn items i
stands_in [] i (k, lt, at) = absurd (omega (arith, lt))
stands_in (j ∷ items) i (zero, lt, at) = record { before = []; behind = items; split = ap (λ (x : ItemTree). x ∷ items) at }
stands_in (j ∷ items) i (suc k, lt, at) =
    let x = stands_in items i (k, omega (arith, lt), at) in
    record { before = j ∷ x.before; behind = x.behind; split = ap (λ (xs : List ItemTree). j ∷ xs) x.split }

-- the rules of an object behind these items
object_quiet : (v : Subject) → faults_of v ≡ [] → (before : List ItemTree) (o : ObjectTree) (behind : List ItemTree) → v.items ≡ before ++ object o ∷ behind → IsQuiet v (item before (object o))
object_quiet v sound before o behind split = at [] before (subst (λ (items : List ItemTree). AllByRecursion (IsQuiet v) (along (item_visits v.texts) [] items)) split (unit_quiet v sound))
  where
    at : (outer xs : List ItemTree) → AllByRecursion (IsQuiet v) (along (item_visits v.texts) outer (xs ++ object o ∷ behind)) → IsQuiet v (item (outer ++ xs) (object o))
    at outer [] q = subst (λ (items : List ItemTree). IsQuiet v (item items (object o))) (sym (append-nil outer)) q.0
    at outer (x ∷ xs) q =
        subst (λ (items : List ItemTree). IsQuiet v (item items (object o))) (append_assoc outer (x ∷ []) xs)
        (at (outer ++ x ∷ []) xs (back (IsQuiet v) (item_visits v.texts outer x) (along (item_visits v.texts) (outer ++ x ∷ []) (xs ++ object o ∷ behind)) q))

or_first : (a b : Bool) → (a || b) ≡ false → a ≡ false
or_first true b h = h
or_first false b h = refl

not_true : (b : Bool) → not b ≡ false → b ≡ true
not_true true h = refl
not_true false h = cc

some_object : (o p : ObjectTree) → Some (object o) ≡ Some (object p) → o ≡ p
some_object o p e = cc

same_number : (a b : NameId) → same_name a b ≡ true → a ≡ b
same_number a b h = ap (λ (n : ℕ). record { 0 = n }) ((Decides-eqb a.0 b.0).0 h)

same_name_itself : (a : NameId) → same_name a a ≡ true
same_name_itself a = (Decides-eqb a.0 a.0).1 refl

-- ---- all declarations of the name

module _ (v : Subject) (accepted : IsAccepted v) (id : NameId) (o : ObjectTree) (first : first_declaration v.items id ≡ Some (object o)) where
  own : IsDeclared v.items id (object o)
  own = declaration v.items id (object o) first

  same_behind : (before : List ItemTree) (p : ObjectTree) (behind : List ItemTree) → v.items ≡ before ++ object p ∷ behind → same_name p.name id ≡ true → IsSame o p
  same_behind before p behind split named = at (first_declaration before id) refl
      (subst (λ (n : NameId). disagrees (first_declaration before n) (object p) ≡ false) (same_number p.name id named)
      (or_first (disagrees (first_declaration before p.name) (object p)) (defines p.name (object p) && list_any (defines p.name) before) (not_again v before p (object_quiet v accepted.sound before p behind split))))
    where
      first_split : first_declaration (before ++ object p ∷ behind) id ≡ Some (object o)
      first_split = subst (λ (xs : List ItemTree). first_declaration xs id ≡ Some (object o)) split first

      at : (f : Option ItemTree) → first_declaration before id ≡ f → disagrees f (object p) ≡ false → IsSame o p
      at None e h = subst (λ (q : ObjectTree). IsSame o q) (some_object o p (sym first_split ∙ first_there before behind id (object p) e named)) (same_itself o)
      at (Some i) e h =
          agreed o p (not_true (agrees (object o) (object p))
          (subst (λ (j : ItemTree). not (agrees j (object p)) ≡ false) (some_item i (object o) (sym (first_before before (object p ∷ behind) id i e) ∙ first_split)) h))

  pub same_objects : (p : ObjectTree) → Contains v.items (object p) → bytes_eq (text_of v.texts p.name) (text_of v.texts id) ≡ true → IsSame o p
  same_objects p p_in e =
      let s = stands_in v.items (object p) p_in in
      same_behind s.before p s.behind s.split
      (accepted.one_name (object p) (object o) p_in own.among p.name id (same_name_itself p.name) own.declared ((bytes_eq-Decides (text_of v.texts p.name) (text_of v.texts id)).0 e))

-- ---- what the unit tells

none_of : (a : Option (Option Tree)) → is_some a ≡ false → a ≡ None
none_of None h = refl
none_of (Some x) h = cc

-- a scalar has one element
one_element : (v : Subject) (p : ObjectTree) → is_some p.array ≡ false → (array_of_object v p).length ≡ 1
unfolding length_of
one_element v p h = ap (λ (a : Option (Option Tree)). unwrap_or (option_and_then (λ (g : Option Tree). given_length g p.init p.braced) a) 1) (none_of p.array h)

pub record TellsObject (v : Subject) (text : List ℕ) (o : ObjectTree) : Type 0 where
  pub row : Data
  pub is : data_in_unit v text ≡ Some row
  pub ty : row.array.ty ≡ o.ty
  pub fixed : row.array.fixed ≡ o.fixed
  pub scalar : is_some o.array ≡ false → row.array.length ≡ 1

record IsArrayNamed (v : Subject) (text : List ℕ) (p : ObjectTree) (b : Array) : Type 0 where
  named : bytes_eq (text_of v.texts p.name) text ≡ true
  is : array_of_object v p ≡ b

array_by : (v : Subject) (text : List ℕ) (p : ObjectTree) (b : Array) (outside named : Bool) → bytes_eq (text_of v.texts p.name) text ≡ named →
    option_and_then (array_if_named text) (cond outside None (Some (array_of_object v p))) ≡ Some b → cond named (Some (array_of_object v p)) None ≡ Some b → IsArrayNamed v text p b
array_by v text p b true named k e f = cc
array_by v text p b false true k e f = record { named = k; is = cc }
array_by v text p b false false k e f = cc

array_is : (v : Subject) (text : List ℕ) (p : ObjectTree) (b : Array) → array_named text v (object p) ≡ Some b → IsArrayNamed v text p b
array_is v text p b e = at p.outside e
  where
    at : (outside : Bool) → option_and_then (array_if_named text) (cond outside None (Some (array_of_object v p))) ≡ Some b → IsArrayNamed v text p b
    at true k = cc
    at false k = array_by v text p b false (bytes_eq (text_of v.texts p.name) text) refl k k

-- a declaration of this text is found
found_some : (v : Subject) (text : List ℕ) (xs : List ItemTree) (o : ObjectTree) → Contains xs (object o) → bytes_eq (text_of v.texts o.name) text ≡ true → first_of (object_named text v) xs ≡ None → ⊥
found_some v text [] o (k, lt, at) h e = omega (arith, lt)
found_some v text (x ∷ xs) o (zero, lt, at) h e = no (ap (λ (i : ItemTree). option_or (object_named text v i) (first_of (object_named text v) xs)) (sym at) ∙ e)
  where
    no : option_or (object_named text v (object o)) (first_of (object_named text v) xs) ≡ None → ⊥
    no k = never (ap (λ (b : Bool). option_or (cond b (Some o) None) (first_of (object_named text v) xs)) (sym h) ∙ k)
      where
        never : Some o ≡ None → ⊥
        never q = cc
found_some v text (x ∷ xs) o (suc k, lt, at) h e = found_some v text xs o (k, omega (arith, lt), at) h (rest (object_named text v x) (first_of (object_named text v) xs) e)
  where
    rest : (a b : Option ObjectTree) → option_or a b ≡ None → b ≡ None
    rest None b q = q
    rest (Some a) b q = cc

record IsObjectNamed (v : Subject) (text : List ℕ) (i : ItemTree) (q : ObjectTree) : Type 0 where
  item_is : i ≡ object q
  named : bytes_eq (text_of v.texts q.name) text ≡ true

object_is : (v : Subject) (text : List ℕ) (i : ItemTree) (q : ObjectTree) → object_named text v i ≡ Some q → IsObjectNamed v text i q
object_is v text (function f) q e = cc
object_is v text (lost_line l) q e = cc
object_is v text (object p) q e = at (bytes_eq (text_of v.texts p.name) text) refl e
  where
    at : (b : Bool) → bytes_eq (text_of v.texts p.name) text ≡ b → cond b (Some p) None ≡ Some q → IsObjectNamed v text (object p) q
    at true k h = subst (λ (r : ObjectTree). IsObjectNamed v text (object p) r) (same h) (record { item_is = refl; named = k })
      where
        same : Some p ≡ Some q → p ≡ q
        same x = cc
    at false k h = cc

module _ (v : Subject) (accepted : IsAccepted v) (id : NameId) (o : ObjectTree) (first : first_declaration v.items id ≡ Some (object o)) where
  abbrev text : List ℕ
  text = text_of v.texts id

  same_here : (p : ObjectTree) → Contains v.items (object p) → bytes_eq (text_of v.texts p.name) text ≡ true → IsSame o p
  same_here = same_objects v accepted id o first

  by_definition : (b : Array) → array_in text v ≡ Some b → (i : ItemTree) → Contains v.items i → array_named text v i ≡ Some b → TellsObject v text o
  by_definition b e (function f) among is = cc
  by_definition b e (lost_line l) among is = cc
  by_definition b e (object p) among is =
      let n = array_is v text p b is in
      let s = same_here p among n.named in
      record {
        row = record { array = trimmed_array b; defined = true };
        is = ap (λ (a : Option Array). data_by a (option_map (declared_array v) (first_of (object_named text v) v.items))) e;
        ty = sym (ap (λ (a : Array). a.ty) n.is) ∙ sym s.ty;
        fixed = sym (ap (λ (a : Array). a.fixed) n.is) ∙ sym s.fixed;
        scalar = λ h. sym (ap (λ (a : Array). a.length) n.is) ∙ one_element v p (sym s.array ∙ h);
      }

  by_declaration : (q : ObjectTree) → array_in text v ≡ None → first_of (object_named text v) v.items ≡ Some q → IsSame o q → TellsObject v text o
  by_declaration q e f s = record {
    row = record { array = declared_array v q; defined = false };
    is = λ i. data_by (e i) (option_map (declared_array v) (f i));
    ty = sym s.ty;
    fixed = sym s.fixed;
    scalar = λ h. one_element v q (sym s.array ∙ h);
  }

  pub tells_object : TellsObject v text o
  tells_object = at (array_in text v) refl
    where
      own_declared : IsDeclared v.items id (object o)
      own_declared = declaration v.items id (object o) first

      own_text : bytes_eq (text_of v.texts o.name) text ≡ true
      own_text = (bytes_eq-Decides (text_of v.texts o.name) text).1 (ap (text_of v.texts) (same_number o.name id own_declared.declared))

      listed : (q : Option ObjectTree) → first_of (object_named text v) v.items ≡ q → array_in text v ≡ None → TellsObject v text o
      listed None f e = absurd (found_some v text v.items o own_declared.among own_text f)
      listed (Some q) f e =
          let n = found (object_named text v) v.items q f in
          let k = object_is v text n.of q n.is in
          by_declaration q e f (same_here q (subst (λ (i : ItemTree). Contains v.items i) k.item_is n.among) k.named)

      at : (a : Option Array) → array_in text v ≡ a → TellsObject v text o
      at None e = listed (first_of (object_named text v) v.items) refl e
      at (Some b) e = let n = found (array_named text v) v.items b e in by_definition b e n.of n.among n.is
