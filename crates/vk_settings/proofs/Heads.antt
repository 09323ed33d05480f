-- The definition of a function in an accepted unit has the types of the function's first declaration there.
use Rattle.std.proofs.Common.{◌≡◌, ◌⊎◌, inl, inr, ℕ, Bool, true, false, cond, ◌||◌, not, List, [], ◌∷◌, ◌++◌, Contains, Option, Some, None, bytes_eq, rules, refl, sym, ap, subst, ◌∙◌}
use Rattle.std.specs.List.{AllByRecursion}
use Rattle.std.specs.Option.{option_or}
use Rattle.std.proofs.lemmas.Bool.Decides.{Decides-eqb}
use Rattle.std.proofs.lemmas.List.{append-nil, append_assoc}
use Rattle.std.proofs.lemmas.List.Elements.{Contains-append_left, Contains-append_right}
use Rattle.std.proofs.lemmas.Slice.Eq.{bytes_eq-Decides}
use Rattle.vk_types.specs.declared.types.Ty.{Ty}
use Rattle.vk_kinds.specs.declared.heads.CType.{CType}
use Rattle.vk_kinds.specs.declared.heads.CType.TheVariants.{Void, Int, Ptr}
use Rattle.vk_ast.specs.declared.names.NameId.{NameId}
use Rattle.vk_ast.specs.Statements.{StmtTree}
use Rattle.vk_ast.specs.Units.{FunctionTree, ItemTree, function, object, lost_line}
use Rattle.vk_rules_book.specs.Items.{agrees, disagrees, same_ctype, same_ctypes}
use Rattle.vk_rules_book.specs.Rules.{Subject, faults_of}
use Rattle.vk_rules_book.specs.Scopes.{first_declaration, same_name, text_of, types_of}
use Rattle.vk_rules_book.specs.Signatures.{head_of}
use Rattle.vk_rules_book.specs.Typings.{same_type}
use Rattle.vk_rules_book.specs.Visits.{along, item, item_visits}
use Rattle.vk_rules_laws.proofs.Each.{IsQuiet, back, unit_quiet}
use Rattle.vk_rules_laws.proofs.Sizes.{IsQuietFunction, quiet_function}
use Rattle.vk_meaning.specs.Programs.{Definition, defined_behind, defined_by, with_body}
use Rattle.vk_agree.specs.Units.{IsAccepted, definition_in, first_of, function_in, function_named}
use Rattle.vk_joins_laws.proofs.Lists.{both_first, both_second, here, later}

-- ---- types that are told the same

type_is : (s t : Ty) → same_type s t ≡ true → s ≡ t
type_is s t h = search rules

ctype_is : (s t : CType) → same_ctype s t ≡ true → s ≡ t
ctype_is Void Void h = refl
ctype_is Void (Int t) h = cc
ctype_is Void (Ptr t w) h = cc
ctype_is (Int s) Void h = cc
ctype_is (Int s) (Int t) h = ap Int (type_is s t h)
ctype_is (Int s) (Ptr t w) h = cc
ctype_is (Ptr s v) Void h = cc
ctype_is (Ptr s v) (Int t) h = cc
ctype_is (Ptr s v) (Ptr t w) h =
    λ i. Ptr (type_is s t (both_first (same_type s t) (cond v w (not w)) h) i) (same_flag v w (both_second (same_type s t) (cond v w (not w)) h) i)
  where
    same_flag : (a b : Bool) → cond a b (not b) ≡ true → a ≡ b
    same_flag true b k = sym k
    same_flag false true k = cc
    same_flag false false k = refl

ctypes_are : (ss ts : List CType) → same_ctypes ss ts ≡ true → ss ≡ ts
unfolding same_ctypes
ctypes_are [] [] h = refl
ctypes_are [] (t ∷ ts) h = cc
ctypes_are (s ∷ ss) [] h = cc
ctypes_are (s ∷ ss) (t ∷ ts) h =
    λ i. ctype_is s t (both_first (same_ctype s t) (same_ctypes ss ts) h) i ∷ ctypes_are ss ts (both_second (same_ctype s t) (same_ctypes ss ts) h) i

heads_are : (g f : FunctionTree) → agrees (function g) (function f) ≡ true → head_of f ≡ head_of g
heads_are g f h =
    λ i. record {
      result = sym (ctype_is g.result f.result (both_first (same_ctype g.result f.result) (same_ctypes (types_of g.params) (types_of f.params)) h)) i;
      params = sym (ctypes_are (types_of g.params) (types_of f.params) (both_second (same_ctype g.result f.result) (same_ctypes (types_of g.params) (types_of f.params)) h)) i;
    }

-- ---- where a definition stands

pub record IsDefinedIn (text : List ℕ) (v : Subject) (f : Definition) : Type 0 where
  pub unit_is : f.unit ≡ v
  pub before : List ItemTree
  pub behind : List ItemTree
  pub split : v.items ≡ before ++ function f.function ∷ behind
  -- its items are the first ones of the unit
  pub prefix : v.items ≡ f.items ++ behind
  pub items_are : f.items ≡ before ++ function f.function ∷ []
  pub body_is : f.function.body ≡ Some f.body
  pub named : text_of v.texts f.function.name ≡ text

module _ (text : List ℕ) (v : Subject) (f : Definition) where
  found_body : (before : List ItemTree) (g : FunctionTree) (behind : List ItemTree) (b : Option StmtTree) → g.body ≡ b → v.items ≡ before ++ function g ∷ behind → text_of v.texts g.name ≡ text →
      with_body v (before ++ function g ∷ []) g b ≡ Some f → IsDefinedIn text v f
  found_body before g behind None is split named e = cc
  found_body before g behind (Some body) is split named e =
      subst (IsDefinedIn text v) (same_some _ f e) (record { unit_is = refl; before = before; behind = behind; split = split; prefix = split ∙ sym (append_assoc before (function g ∷ []) behind); items_are = refl; body_is = is; named = named })
    where
      same_some : (x y : Definition) → Some x ≡ Some y → x ≡ y
      same_some x y k = cc

  found_if : (before : List ItemTree) (g : FunctionTree) (behind : List ItemTree) (b : Bool) → bytes_eq (text_of v.texts g.name) text ≡ b → v.items ≡ before ++ function g ∷ behind →
      cond b (with_body v (before ++ function g ∷ []) g g.body) None ≡ Some f → IsDefinedIn text v f
  found_if before g behind true k split e = found_body before g behind g.body refl split ((bytes_eq-Decides (text_of v.texts g.name) text).0 k) e
  found_if before g behind false k split e = cc

  found_by : (before : List ItemTree) (i : ItemTree) (behind : List ItemTree) → v.items ≡ before ++ i ∷ behind → defined_by text v (before ++ i ∷ []) i ≡ Some f → IsDefinedIn text v f
  found_by before (function g) behind split e = found_if before g behind (bytes_eq (text_of v.texts g.name) text) refl split e
  found_by before (object o) behind split e = cc
  found_by before (lost_line l) behind split e = cc

  either_some : (a b : Option Definition) → option_or a b ≡ Some f → (a ≡ Some f) ⊎ (b ≡ Some f)
  either_some (Some y) b e = inl e
  either_some None b e = inr e

  found_behind : (before rest : List ItemTree) → v.items ≡ before ++ rest → defined_behind text v before rest ≡ Some f → IsDefinedIn text v f
  found_behind before [] split e = cc
  found_behind before (i ∷ rest) split e =
      either (either_some (defined_by text v (before ++ i ∷ []) i) (defined_behind text v (before ++ i ∷ []) rest) e) (λ k. found_behind (before ++ i ∷ []) rest (split ∙ sym (append_assoc before (i ∷ []) rest)) k)
    where
      either : (defined_by text v (before ++ i ∷ []) i ≡ Some f) ⊎ (defined_behind text v (before ++ i ∷ []) rest ≡ Some f) → (defined_behind text v (before ++ i ∷ []) rest ≡ Some f → IsDefinedIn text v f) → IsDefinedIn text v f
      either (inl h) next = found_by before i rest split h
      either (inr h) next = next h

pub defined_in_unit : (text : List ℕ) (v : Subject) (f : Definition) → definition_in text v ≡ Some f → IsDefinedIn text v f
defined_in_unit text v f e = found_behind text v f [] v.items refl e

-- ---- the first declaration

-- the rules of a function behind these items
own_quiet : (v : Subject) → faults_of v ≡ [] → (before : List ItemTree) (f : FunctionTree) (behind : List ItemTree) → v.items ≡ before ++ function f ∷ behind → IsQuietFunction v before f
own_quiet v sound before f behind split = quiet_function v before f (at [] before (subst (λ (items : List ItemTree). AllByRecursion (IsQuiet v) (along (item_visits v.texts) [] items)) split (unit_quiet v sound)))
  where
    at : (outer xs : List ItemTree) → AllByRecursion (IsQuiet v) (along (item_visits v.texts) outer (xs ++ function f ∷ behind)) → IsQuiet v (item (outer ++ xs) (function f))
    at outer [] q = subst (λ (items : List ItemTree). IsQuiet v (item items (function f))) (sym (append-nil outer)) q.0
    at outer (x ∷ xs) q =
        subst (λ (items : List ItemTree). IsQuiet v (item items (function f))) (append_assoc outer (x ∷ []) xs)
        (at (outer ++ x ∷ []) xs (back (IsQuiet v) (item_visits v.texts outer x) (along (item_visits v.texts) (outer ++ x ∷ []) (xs ++ function f ∷ behind)) q))

or_first : (a b : Bool) → (a || b) ≡ false → a ≡ false
or_first true b h = h
or_first false b h = refl

-- What is found first by the text among items, where a function of this name may be declared behind them: nothing, or a function of the
-- same types.
module _ (v : Subject) (accepted : IsAccepted v) (f : FunctionTree) (f_in : Contains v.items (function f)) where
  abbrev its_text : List ℕ
  its_text = text_of v.texts f.name

  same_itself : (a : NameId) → same_name a a ≡ true
  same_itself a = (Decides-eqb a.0 a.0).1 refl

  -- a function's name is this one where its text is
  by_text : (g : FunctionTree) → Contains v.items (function g) → bytes_eq (text_of v.texts g.name) its_text ≡ true → same_name g.name f.name ≡ true
  by_text g i h = accepted.one_name (function g) (function f) i f_in g.name f.name (same_itself g.name) (same_itself f.name) ((bytes_eq-Decides (text_of v.texts g.name) its_text).0 h)

  by_name : (g : FunctionTree) → same_name g.name f.name ≡ true → bytes_eq (text_of v.texts g.name) its_text ≡ true
  by_name g h = (bytes_eq-Decides (text_of v.texts g.name) its_text).1 (ap (text_of v.texts) (same_number g.name f.name ((Decides-eqb g.name.0 f.name.0).0 h)))
    where
      same_number : (a b : NameId) → a.0 ≡ b.0 → a ≡ b
      same_number a b e = ap (λ (n : ℕ). record { 0 = n }) e

  -- nothing, or a function of the same types
  abbrev IsFirst : Option FunctionTree → Type 0
  IsFirst None = Unit {0}
  IsFirst (Some g) = agrees (function g) (function f) ≡ true

  not_true : (b : Bool) → not b ≡ false → b ≡ true
  not_true true h = refl
  not_true false h = cc

  not_that : (b c : Bool) → (b ≡ true → c ≡ true) → c ≡ false → b ≡ false
  not_that true c h k = sym (h refl) ∙ k
  not_that false c h k = refl

  first_among : (xs : List ItemTree) → ((i : ItemTree) → Contains xs i → Contains v.items i) → disagrees (first_declaration xs f.name) (function f) ≡ false → IsFirst (first_of (function_named its_text v) xs)
  unfolding first_declaration
  first_among [] inside h = tt
  first_among (function g ∷ xs) inside h = at (same_name g.name f.name) refl h (λ k. first_among xs (λ i m. inside i (later (function g) i xs m)) k)
    where
      in_items : Contains v.items (function g)
      in_items = inside (function g) (here (function g) xs)

      at : (b : Bool) → same_name g.name f.name ≡ b → disagrees (cond b (Some (function g)) (first_declaration xs f.name)) (function f) ≡ false →
          (disagrees (first_declaration xs f.name) (function f) ≡ false → IsFirst (first_of (function_named its_text v) xs)) →
          IsFirst (option_or (cond (bytes_eq (text_of v.texts g.name) its_text) (Some g) None) (first_of (function_named its_text v) xs))
      at true e k next = subst (λ (c : Bool). IsFirst (option_or (cond c (Some g) None) (first_of (function_named its_text v) xs))) (sym (by_name g e)) (not_true (agrees (function g) (function f)) k)
      at false e k next =
          subst (λ (c : Bool). IsFirst (option_or (cond c (Some g) None) (first_of (function_named its_text v) xs))) (sym (not_that (bytes_eq (text_of v.texts g.name) its_text) (same_name g.name f.name) (by_text g in_items) e))
          (next k)
  first_among (object o ∷ xs) inside h = at (same_name o.name f.name) h (λ k. first_among xs (λ i m. inside i (later (object o) i xs m)) k)
    where
      at : (b : Bool) → disagrees (cond b (Some (object o)) (first_declaration xs f.name)) (function f) ≡ false →
          (disagrees (first_declaration xs f.name) (function f) ≡ false → IsFirst (first_of (function_named its_text v) xs)) → IsFirst (first_of (function_named its_text v) xs)
      at true k next = cc
      at false k next = next k
  first_among (lost_line l ∷ xs) inside h = first_among xs (λ i m. inside i (later (lost_line l) i xs m)) h

-- THE HEAD: the first declaration of a defined function, with the definition's types
pub record HasHead (text : List ℕ) (v : Subject) (f : Definition) : Type 0 where
  pub first : FunctionTree
  pub is : function_in text v ≡ Some first
  pub head : head_of f.function ≡ head_of first

pub first_append : (look : ItemTree → Option FunctionTree) (xs ys : List ItemTree) → first_of look (xs ++ ys) ≡ option_or (first_of look xs) (first_of look ys)
first_append look [] ys = refl
first_append look (x ∷ xs) ys = ap (option_or (look x)) (first_append look xs ys) ∙ assoc (look x) (first_of look xs) (first_of look ys)
  where
    assoc : (a b c : Option FunctionTree) → option_or a (option_or b c) ≡ option_or (option_or a b) c
    assoc None b c = refl
    assoc (Some a) b c = refl

has_head_at : (v : Subject) (accepted : IsAccepted v) (f : FunctionTree) (before behind : List ItemTree) → v.items ≡ before ++ function f ∷ behind →
    (g : FunctionTree) × ((function_in (text_of v.texts f.name) v ≡ Some g) × (head_of f ≡ head_of g))
has_head_at v accepted f before behind split =
    at (first_of look before) refl (first_among v accepted f f_in before inside (or_first (disagrees (first_declaration before f.name) (function f)) _ (own_quiet v accepted.sound before f behind split).again))
  where
    look : ItemTree → Option FunctionTree
    look = function_named (text_of v.texts f.name) v

    f_in : Contains v.items (function f)
    f_in = subst (λ (xs : List ItemTree). Contains xs (function f)) (sym split) (Contains-append_right before (function f ∷ behind) (function f) (here (function f) behind))

    inside : (i : ItemTree) → Contains before i → Contains v.items i
    inside i h = subst (λ (xs : List ItemTree). Contains xs i) (sym split) (Contains-append_left before (function f ∷ behind) i h)

    found : (o : Option FunctionTree) → first_of (function_named (text_of v.texts f.name) v) before ≡ o → function_in (text_of v.texts f.name) v ≡ option_or o (Some f)
    found o e =
        ap (first_of (function_named (text_of v.texts f.name) v)) split ∙
        (first_append (function_named (text_of v.texts f.name) v) before (function f ∷ behind) ∙
        (λ i. option_or (e i) (option_or (cond ((bytes_eq-Decides (text_of v.texts f.name) (text_of v.texts f.name)).1 refl i) (Some f) None) (first_of (function_named (text_of v.texts f.name) v) behind))))

    at : (o : Option FunctionTree) → first_of (function_named (text_of v.texts f.name) v) before ≡ o → IsFirst v accepted f f_in o →
        (g : FunctionTree) × ((function_in (text_of v.texts f.name) v ≡ Some g) × (head_of f ≡ head_of g))
    at None e h = (f, (found None e, refl))
    at (Some g) e h = (g, (found (Some g) e, heads_are g f h))

pub has_head : (text : List ℕ) (v : Subject) → IsAccepted v → (f : Definition) → definition_in text v ≡ Some f → HasHead text v f
has_head text v accepted f e =
    let d = defined_in_unit text v f e in
    let h = has_head_at v accepted f.function d.before d.behind d.split in
    record { first = h.0; is = subst (λ (t : List ℕ). function_in t v ≡ Some h.0) d.named h.1.0; head = h.1.1 }
