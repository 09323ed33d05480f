-- Units that link agree on their functions.
use Rattle.std.proofs.Common.{◌≡◌, ◌⊎◌, inl, inr, ℕ, zero, suc, Bool, true, false, cond, ◌&&◌, not, is_none, map, List, [], ◌∷◌, ◌++◌, Contains, Option, Some, None, is_some, bytes_eq, codes, refl, sym, ap, subst, ◌∙◌, arith}
use Rattle.std.specs.Option.{option_map}
use Rattle.vk_kinds.specs.Sizes.{HeadTypes, SignatureTree}
use Rattle.vk_ast.specs.declared.names.NameId.{NameId}
use Rattle.vk_ast.specs.Directives.{DirectiveTree}
use Rattle.vk_ast.specs.Units.{FunctionTree, ItemTree, function}
use Rattle.vk_rules_book.specs.Directives.{signatures}
use Rattle.vk_rules_book.specs.Items.{same_ctype, same_ctypes}
use Rattle.vk_rules_book.specs.Rules.{Subject}
use Rattle.vk_rules_book.specs.Scopes.{first_declaration, has_directives, is_print, text_of, types_of}
use Rattle.vk_rules_book.specs.Signatures.{signature_of}
use Rattle.vk_kinds.specs.declared.heads.CType.TheVariants.{Int, Void}
use Rattle.vk_types.specs.declared.types.Ty.TheVariants.{I64}
use Rattle.std.proofs.lemmas.Bool.Decides.{Decides-eqb}
use Rattle.vk_meaning_laws.specs.Tame.{IsLaneFunction}
use Rattle.vk_meaning_accepted.specs.Linked.{AgreeOnFunctions}
use Rattle.vk_meaning_accepted.proofs.Programs.{own_quiet}
use Rattle.vk_meaning.specs.Programs.{Definition, definition_of}
use Rattle.vk_agree.specs.Units.{IsAccepted, definition_in, function_in, signatures_in, signatures_where_declared}
use Rattle.vk_joins.specs.Carries.{AreAccepted, Pair, units_of}
use Rattle.vk_joins.specs.Links.{DoUnitsLink, table_of_unit}
use Rattle.vk_joins.specs.Tables.{Declared, declared_as, declared_in_unit}
use Rattle.vk_joins_laws.proofs.Lists.{contains_map, here, later, unmap}
use Rattle.vk_compose.proofs.Compose.{definer, table_in}
use Rattle.vk_settings.proofs.Declared.{declaration, found_first}
use Rattle.vk_settings.proofs.Heads.{HasHead, defined_in_unit, has_head}
use Rattle.vk_settings.proofs.Told.{declared_there}
use Rattle.vk_linked_functions.specs.Lines.{has_lines, is_some_signature, with_lines}

none_some : (o : Option Declared) (e : Declared) → o ≡ None → o ≡ Some e → ⊥
none_some None e a b = cc
none_some (Some x) e a b = cc

module _ (v : Subject) (accepted : IsAccepted v) (id : NameId) (g : FunctionTree) (first : first_declaration v.items id ≡ Some (function g)) where
  pub function_found : function_in (text_of v.texts id) v ≡ Some g
  function_found =
      let d = declaration v.items id g first in
      found_first v accepted id g d.among d.named v.items (λ i m. m) first

  pub declared_found : bytes_eq (text_of v.texts id) (codes "print") ≡ false → declared_in_unit v (text_of v.texts id) ≡ Some (declared_as v (text_of v.texts id) g)
  declared_found own = λ i. cond (own i) None (option_map (declared_as v (text_of v.texts id)) (function_found i))

  pub signatures_found : signatures_in (text_of v.texts id) v ≡ signatures g
  signatures_found = ap signatures_where_declared function_found

module _ (ps : List Pair) (accepted : AreAccepted ps) (links : DoUnitsLink (units_of ps)) where
  pub types_agree : (p : Pair) → Contains ps p → (id : NameId) (g : FunctionTree) → first_declaration p.unit.items id ≡ Some (function g) →
      (d : Definition) → definition_of (units_of ps) (text_of p.unit.texts id) ≡ Some d → types_of g.params ≡ types_of d.function.params
  types_agree p p_in id g first d is =
      let x = definer ps text d is in
      let h = has_head text x.pair.unit (accepted x.pair x.among) d x.defines in
      by (bytes_eq text (codes "print")) refl x.pair h (declared_there x.pair.unit (accepted x.pair x.among) text d x.defines h) x.among x.defines
    where
      text : List ℕ
      text = text_of p.unit.texts id

      by : (b : Bool) → bytes_eq text (codes "print") ≡ b → (q : Pair) → (h : HasHead text q.unit d) → declared_in_unit q.unit text ≡ Some (declared_as q.unit text h.first) → Contains ps q → definition_in text q.unit ≡ Some d →
          types_of g.params ≡ types_of d.function.params
      by true k q h there q_in e = absurd (none_some (declared_in_unit q.unit text) (declared_as q.unit text h.first) (ap (λ (c : Bool). cond c None (option_map (declared_as q.unit text) (function_in text q.unit))) k) there)
      by false k q h there q_in e =
          (links.functions (table_of_unit p.unit) (table_of_unit q.unit) (table_in ps p p_in) (table_in ps q q_in) text (declared_as p.unit text g) (declared_as q.unit text h.first)
          (declared_found p.unit (accepted p p_in) id g first k) (there, ap is_some e)).params ∙ sym (ap (λ (x : HeadTypes). x.params) h.head)

-- ---- which functions have directives

pub print_has_none : (units : List Subject) → has_lines units (codes "print") ≡ false
print_has_none [] = refl
print_has_none (u ∷ us) = print_has_none us

in_cond : (b : Bool) (x : Bool) → x ≡ true → cond b true x ≡ true
in_cond true x h = refl
in_cond false x h = h

pub lines_in : (units : List Subject) (text : List ℕ) (u : Subject) → Contains units u → with_lines (declared_in_unit u text) ≡ true → has_lines units text ≡ true
lines_in [] text u (k, lt, at) h = absurd (omega (arith, lt))
lines_in (w ∷ ws) text u (zero, lt, at) h = ap (λ (b : Bool). cond b true (has_lines ws text)) (subst (λ (x : Subject). with_lines (declared_in_unit x text) ≡ true) (sym at) h)
lines_in (w ∷ ws) text u (suc k, lt, at) h = in_cond (with_lines (declared_in_unit w text)) (has_lines ws text) (lines_in ws text u (k, omega (arith, lt), at) h)

pub record HasLinesIn (units : List Subject) (text : List ℕ) : Type 0 where
  pub unit : Subject
  pub among : Contains units unit
  pub lines : with_lines (declared_in_unit unit text) ≡ true

pub lines_from : (units : List Subject) (text : List ℕ) → has_lines units text ≡ true → HasLinesIn units text
lines_from [] text h = cc
lines_from (w ∷ ws) text h = at (with_lines (declared_in_unit w text)) refl h (λ k. lines_from ws text k)
  where
    more : HasLinesIn ws text → HasLinesIn (w ∷ ws) text
    more k = record { unit = k.unit; among = later w k.unit ws k.among; lines = k.lines }

    at : (b : Bool) → with_lines (declared_in_unit w text) ≡ b → cond b true (has_lines ws text) ≡ true → (has_lines ws text ≡ true → HasLinesIn ws text) → HasLinesIn (w ∷ ws) text
    at true e k next = record { unit = w; among = here w ws; lines = e }
    at false e k next = more (next k)

same_some : (f : FunctionTree) (ds : List DirectiveTree) → is_some_signature (map (signature_of f) ds) ≡ has_directives ds
same_some f [] = refl
same_some f (d ∷ ds) = refl

-- `print` is declared without directives
not_plain : (p a d n : Bool) → p ≡ true → d ≡ true → (p && not ((a && not d) && n)) ≡ false → ⊥
not_plain true true true n h k e = cc
not_plain true false true n h k e = cc
not_plain false a d n h k e = cc
not_plain true a false n h k e = cc

record StandsIn (items : List ItemTree) (i : ItemTree) : Type 0 where
  before : List ItemTree
  behind : List ItemTree
  split : items ≡ before ++ i ∷ behind

stands_in : (items : List ItemTree) (i : ItemTree) → Contains items i → StandsIn items i
stands_in [] i (k, lt, at) = absurd (omega (arith, lt))
stands_in (j ∷ items) i (zero, lt, at) = record { before = []; behind = items; split = ap (λ (x : ItemTree). x ∷ items) at }
stands_in (j ∷ items) i (suc k, lt, at) =
    let x = stands_in items i (k, omega (arith, lt), at) in
    record { before = j ∷ x.before; behind = x.behind; split = ap (λ (xs : List ItemTree). j ∷ xs) x.split }

print_plain : (v : Subject) → IsAccepted v → (id : NameId) (g : FunctionTree) → first_declaration v.items id ≡ Some (function g) → bytes_eq (text_of v.texts id) (codes "print") ≡ true → has_directives g.directives ≡ true → ⊥
print_plain v accepted id g first printing lines =
    let d = declaration v.items id g first in
    let x = stands_in v.items (function g) d.among in
    let same : g.name ≡ id = ap (λ (n : ℕ). record { 0 = n }) ((Decides-eqb g.name.0 id.0).0 d.named) in
    not_plain (is_print v.texts g.name) (same_ctype g.result Void && same_ctypes (types_of g.params) (Int I64 ∷ [])) (has_directives g.directives) (is_none g.body)
    (ap (is_print v.texts) same ∙ printing) lines (own_quiet v accepted.sound x.before g x.behind x.split).print

module _ (ps : List Pair) (accepted : AreAccepted ps) (links : DoUnitsLink (units_of ps)) where
  lines_declared : (p : Pair) → Contains ps p → (id : NameId) (g : FunctionTree) → first_declaration p.unit.items id ≡ Some (function g) → has_directives g.directives ≡ true → has_lines (units_of ps) (text_of p.unit.texts id) ≡ true
  lines_declared p p_in id g first lines = at (bytes_eq (text_of p.unit.texts id) (codes "print")) refl
    where
      at : (b : Bool) → bytes_eq (text_of p.unit.texts id) (codes "print") ≡ b → has_lines (units_of ps) (text_of p.unit.texts id) ≡ true
      at true k = absurd (print_plain p.unit (accepted p p_in) id g first k lines)
      at false k =
          lines_in (units_of ps) (text_of p.unit.texts id) p.unit (contains_map (λ (q : Pair). q.unit) ps p p_in)
          (ap with_lines (declared_found p.unit (accepted p p_in) id g first k) ∙
          (ap is_some_signature (signatures_found p.unit (accepted p p_in) id g first) ∙ (same_some g g.directives ∙ lines)))

  lines_defined : (text : List ℕ) (d : Definition) → IsLaneFunction (units_of ps) (has_lines (units_of ps)) text d → (g : FunctionTree) → first_declaration d.unit.items d.function.name ≡ Some (function g) → has_directives g.directives ≡ true
  lines_defined text d l g first =
      let s = lines_from (units_of ps) text l.lane_function in
      let w = unmap (λ (q : Pair). q.unit) ps s.unit s.among in
      by w.of w.among (declared_in_unit w.of.unit text) refl (subst (λ (u : Subject). with_lines (declared_in_unit u text) ≡ true) (sym w.is) s.lines)
    where
      q : Pair
      q = (definer ps text d l.definition).pair

      q_in : Contains ps q
      q_in = (definer ps text d l.definition).among

      e : definition_in text q.unit ≡ Some d
      e = (definer ps text d l.definition).defines

      h : HasHead text q.unit d
      h = has_head text q.unit (accepted q q_in) d e

      signs : signatures_in text q.unit ≡ signatures g
      signs =
          let at = defined_in_unit text q.unit d e in
          subst (λ (t : List ℕ). signatures_in t q.unit ≡ signatures g) at.named
          (signatures_found q.unit (accepted q q_in) d.function.name g (subst (λ (u : Subject). first_declaration u.items d.function.name ≡ Some (function g)) at.unit_is first))

      own : (ss : List SignatureTree) → is_some_signature ss ≡ true → (ss ≡ []) ⊎ (ss ≡ signatures_in text q.unit) → has_directives g.directives ≡ true
      own ss k (inl n) = absurd (no (subst (λ (ts : List SignatureTree). is_some_signature ts ≡ true) n k))
        where
          no : false ≡ true → ⊥
          no x = cc
      own ss k (inr n) = sym (same_some g g.directives) ∙ subst (λ (ts : List SignatureTree). is_some_signature ts ≡ true) (n ∙ signs) k

      by : (p : Pair) → Contains ps p → (o : Option Declared) → declared_in_unit p.unit text ≡ o → with_lines (declared_in_unit p.unit text) ≡ true → has_directives g.directives ≡ true
      by p p_in None k n = absurd (no (sym (ap with_lines k) ∙ n))
        where
          no : false ≡ true → ⊥
          no x = cc
      by p p_in (Some c) k n =
          own c.signatures (sym (ap with_lines k) ∙ n)
          (links.directives (table_of_unit p.unit) (table_of_unit q.unit) (table_in ps p p_in) (table_in ps q q_in) text c (declared_as q.unit text h.first) k (declared_there q.unit (accepted q q_in) text d e h, ap is_some e))

  pub functions_agree : AgreeOnFunctions (units_of ps) (has_lines (units_of ps))
  functions_agree = record {
    types = λ u u_in id g first d is.
        let w = unmap (λ (q : Pair). q.unit) ps u u_in in
        types_agree ps accepted links w.of w.among id g (subst (λ (v : Subject). first_declaration v.items id ≡ Some (function g)) (sym w.is) first) d (subst (λ (v : Subject). definition_of (units_of ps) (text_of v.texts id) ≡ Some d) (sym w.is) is);
    declared = λ u u_in id g first lines.
        let w = unmap (λ (q : Pair). q.unit) ps u u_in in
        subst (λ (v : Subject). has_lines (units_of ps) (text_of v.texts id) ≡ true) w.is
        (lines_declared w.of w.among id g (subst (λ (v : Subject). first_declaration v.items id ≡ Some (function g)) (sym w.is) first) lines);
    defined = lines_defined;
  }
