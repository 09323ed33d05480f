-- What holds of a unit that breaks no rule, item by item.
use Rattle.std.proofs.Common.{◌≡◌, ℕ, ◌+◌, ◌<◌, ◌≤◌, eqb, Bool, true, false, ◌&&◌, nat_le, length, map, take, drop, get_or, List, [], ◌∷◌, ◌++◌, refl, sym, ap, ap₂, ◌∙◌, arith}
use Rattle.std.specs.List.{list_all}
use Rattle.std.proofs.lemmas.Bool.Decides.{nat_tests}
use Rattle.std.proofs.lemmas.List.{append-nil, append_assoc, map-append, take-append-drop}
use Rattle.vk_ast.specs.declared.items.Item.{Item}
use Rattle.vk_ast.specs.declared.items.ParamDecl.{ParamDecl}
use Rattle.vk_ast.specs.Directives.{ClauseTree, DirectiveTree}
use Rattle.vk_ast.specs.Units.{FunctionTree, ItemTree, function, object, lost_line, item_of}
use Rattle.vk_rules_book.specs.declared.faults.Fault.{Fault}
use Rattle.vk_rules_book.specs.declared.lists.Entry.{Entry}
use Rattle.vk_rules_book.specs.Faults.{when}
use Rattle.vk_rules_book.specs.Scopes.{Scope, with_param, with_params, file_scope}
use Rattle.vk_rules_book.specs.Statements.{param_name_faults, parameter_faults}
use Rattle.vk_rules_book.specs.Directives.{all_entry_faults, all_said_faults, clause_faults, directive_faults, entry_faults, has_signature, is_empty, long_name_faults, names_in, said_faults}
use Rattle.vk_rules_book.specs.Visits.{Visit, along, around_body, body_visits, clause_visits, directive_visits, directives, directives_part, entries_of, entry_visits, function_part, item_part, item_visits, parameter_visits}
use Rattle.vk_rules_book.specs.Rules.{Subject, faults_of}
use Rattle.vk_rules_names.proofs.Tables.{grown}
use Rattle.vk_rules.specs.Inner.Walk.{IsSound}
use Rattle.vk_rules.proofs.Parts.{all_faults, faults, faults_append}

-- ---- lists without faults

pub quiet_left : (xs ys : List Fault) → xs ++ ys ≡ [] → xs ≡ []
quiet_left [] ys e = refl
quiet_left (x ∷ xs) ys e = cc

pub quiet_right : (xs ys : List Fault) → xs ++ ys ≡ [] → ys ≡ []
quiet_right [] ys e = e
quiet_right (x ∷ xs) ys e = cc

pub when_not : (b : Bool) (f : Fault) → when b f ≡ [] → b ≡ false
when_not true f e = cc
when_not false f e = refl

pub empty_of : (xs : List Fault) → xs ≡ [] → is_empty xs ≡ true
empty_of [] e = refl
empty_of (x ∷ xs) e = cc

along_append : (part : List ItemTree → ItemTree → List Visit) (before xs ys : List ItemTree)
    → along part before (xs ++ ys) ≡ along part before xs ++ along part (before ++ xs) ys
along_append part before [] ys = ap (λ zs. along part zs ys) (sym (append-nil before))
along_append part before (x ∷ xs) ys =
    ap (λ vs. part before x ++ vs) (along_append part (before ++ x ∷ []) xs ys ∙ ap (λ zs. along part (before ++ x ∷ []) xs ++ along part zs ys) (append_assoc before (x ∷ []) xs))
    ∙ sym (append_assoc (part before x) _ _)

both_true : (a b c : Bool) → a ≡ true → b ≡ true → c ≡ true → (a && (b && c)) ≡ true
both_true true true true p q r = refl
both_true true true false p q r = r
both_true true false c p q r = q
both_true false b c p q r = p

pair_true : (a b : Bool) → a ≡ true → b ≡ true → (a && b) ≡ true
pair_true true true p q = refl
pair_true true false p q = q
pair_true false b p q = p

le_true : (m n : ℕ) → m ≤ n → nat_le m n ≡ true
le_true m n h = grind (arith, nat_tests)

module _ (unit : Subject) where
  quiet_first : (vs ws : List Visit) → faults unit (vs ++ ws) ≡ [] → faults unit vs ≡ []
  quiet_first vs ws e = quiet_left (faults unit vs) (faults unit ws) (sym (faults_append unit vs ws) ∙ e)

  quiet_rest : (vs ws : List Visit) → faults unit (vs ++ ws) ≡ [] → faults unit ws ≡ []
  quiet_rest vs ws e = quiet_right (faults unit vs) (faults unit ws) (sym (faults_append unit vs ws) ∙ e)

  -- ---- an item

  pub quiet_part : (part : List ItemTree → ItemTree → List Visit) (before xs : List ItemTree) (x : ItemTree) (ys : List ItemTree)
      → faults unit (along part before (xs ++ x ∷ ys)) ≡ [] → faults unit (part (before ++ xs) x) ≡ []
  quiet_part part before xs x ys e =
      quiet_first (part (before ++ xs) x) (along part ((before ++ xs) ++ x ∷ []) ys)
      (quiet_rest (along part before xs) (along part (before ++ xs) (x ∷ ys)) (ap (faults unit) (sym (along_append part before xs (x ∷ ys))) ∙ e))

  -- ---- parameters

  parameter_quiet : (s : Scope) (n : ℕ) (p : ParamDecl) → parameter_faults unit.texts s n p ≡ [] → eqb n 64 ≡ false
  unfolding parameter_faults
  parameter_quiet s n p e = when_not (eqb n 64) _ (quiet_left (when (eqb n 64) _) (param_name_faults unit.texts s p.line p.token p.name) e)

  below : (n : ℕ) → n ≤ 64 → eqb n 64 ≡ false → n + 1 ≤ 64
  below n le e = grind (arith, nat_tests)

  pub params_fit : (s : Scope) (n : ℕ) (ps : List ParamDecl) → n ≤ 64 → faults unit (parameter_visits s n ps) ≡ [] → n + length ps ≤ 64
  params_fit s n [] le e = omega arith
  params_fit s n (p ∷ ps) le e =
      let here = below n le (parameter_quiet s n p (quiet_left (parameter_faults unit.texts s n p) _ e)) in
      let rest = params_fit (with_param s p.name p) (n + 1) ps here (quiet_right (parameter_faults unit.texts s n p) (faults unit (parameter_visits (with_param s p.name p) (n + 1) ps)) e) in
      omega (arith, rest)

  -- ---- directives

  clause_said : (f : FunctionTree) (d : DirectiveTree) (earlier : List ClauseTree) (c : ClauseTree) → clause_faults unit.texts f d earlier c ≡ [] → said_faults f d earlier c ≡ []
  unfolding clause_faults
  clause_said f d earlier c e = quiet_left (said_faults f d earlier c) (long_name_faults unit.texts (names_in c)) e

  said_quiet : (f : FunctionTree) (d : DirectiveTree) (earlier cs : List ClauseTree) → faults unit (clause_visits f d earlier cs) ≡ [] → all_said_faults f d earlier cs ≡ []
  said_quiet f d earlier [] e = refl
  said_quiet f d earlier (c ∷ cs) e =
      ap₂ (λ (xs ys : List Fault). xs ++ ys)
      (clause_said f d earlier c (quiet_left (clause_faults unit.texts f d earlier c) _ e))
      (said_quiet f d (earlier ++ c ∷ []) cs (quiet_right (clause_faults unit.texts f d earlier c) (faults unit (clause_visits f d (earlier ++ c ∷ []) cs)) e))

  entries_quiet : (f : FunctionTree) (d : DirectiveTree) (earlier es : List Entry) → faults unit (entry_visits f d earlier es) ≡ [] → all_entry_faults f d earlier es ≡ []
  entries_quiet f d earlier [] e = refl
  entries_quiet f d earlier (x ∷ es) e =
      ap₂ (λ (xs ys : List Fault). xs ++ ys)
      (quiet_left (entry_faults f d earlier x) _ e)
      (entries_quiet f d (earlier ++ x ∷ []) es (quiet_right (entry_faults f d earlier x) (faults unit (entry_visits f d (earlier ++ x ∷ []) es)) e))

  signed : (f : FunctionTree) (d : DirectiveTree) → length f.params ≤ 64 → all_said_faults f d [] d.clauses ≡ [] → all_entry_faults f d [] (entries_of d.clauses) ≡ [] → has_signature f d ≡ true
  unfolding has_signature
  signed f d fits said listed = both_true _ _ _ (le_true (length f.params) 64 fits) (empty_of _ said) (empty_of _ listed)

  pub directives_quiet : (f : FunctionTree) (earlier ds : List DirectiveTree) → length f.params ≤ 64 → faults unit (directive_visits f earlier ds) ≡ [] → list_all (has_signature f) ds ≡ true
  directives_quiet f earlier [] fits e = refl
  directives_quiet f earlier (d ∷ ds) fits e =
      let clauses = clause_visits f d [] d.clauses in
      let entries = entry_visits f d [] (entries_of d.clauses) in
      let more = directive_visits f (earlier ++ d ∷ []) ds in
      let behind : faults unit (clauses ++ (entries ++ more)) ≡ [] = quiet_right (directive_faults unit.target f earlier d) (faults unit (clauses ++ (entries ++ more))) e in
      let listed : faults unit (entries ++ more) ≡ [] = quiet_rest clauses (entries ++ more) behind in
      pair_true (has_signature f d) (list_all (has_signature f) ds)
      (signed f d fits (said_quiet f d [] d.clauses (quiet_first clauses (entries ++ more) behind)) (entries_quiet f d [] (entries_of d.clauses) (quiet_first entries more listed)))
      (directives_quiet f (earlier ++ d ∷ []) ds fits (quiet_rest entries more listed))

  -- ---- an item of a unit that breaks no rule

  pub item_sound : (before : List ItemTree) (i : ItemTree) → faults unit (item_visits unit.texts before i) ≡ [] → IsSound i
  item_sound before (object o) e = tt
  item_sound before (lost_line d) e = tt
  item_sound before (function f) e =
      let own = item_part unit.texts before (function f) in
      let lines = directives_part before (function f) in
      let part = function_part unit.texts before (function f) in
      let rest : faults unit (lines ++ part) ≡ [] = quiet_rest own (lines ++ part) e in
      let inside : faults unit part ≡ [] = quiet_rest lines part rest in
      let scope = file_scope unit.texts (before ++ function f ∷ []) in
      let fits = params_fit scope 0 f.params (omega arith) (quiet_first (parameter_visits scope 0 f.params) (body_visits (around_body (before ++ function f ∷ []) f) (with_params scope f.params) f.body) inside) in
      let few : length f.params ≤ 64 = omega (arith, fits) in (
        directives_quiet f [] f.directives few (quiet_rest (directives before f ∷ []) (directive_visits f [] f.directives) (quiet_first lines part rest)),
        few,
      )

-- each item of a unit that breaks no rule
pub unit_sound : (unit : Subject) (items : List Item) (k : ℕ) (x : Item) → unit.items ≡ map item_of items → faults_of unit ≡ [] → k < length items → x ≡ get_or items k x → IsSound (item_of x)
unit_sound unit items k x same e lt is =
    item_sound unit (map item_of (take k items)) (item_of x)
    (quiet_part unit (item_visits unit.texts) [] (map item_of (take k items)) (item_of x) (map item_of (drop (k + 1) items))
    (ap (λ xs. faults unit (along (item_visits unit.texts) [] xs)) (sym (same
    ∙ ap (map item_of) (sym (take-append-drop (k + 1) items))
    ∙ map-append item_of (take (k + 1) items) (drop (k + 1) items)
    ∙ ap (λ xs. xs ++ map item_of (drop (k + 1) items)) (grown items k x lt is)
    ∙ append_assoc (map item_of (take k items)) (item_of x ∷ []) (map item_of (drop (k + 1) items))))
    ∙ sym (all_faults unit) ∙ e))
