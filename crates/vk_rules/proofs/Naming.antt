-- The names of a unit, function after function.
use Rattle.std.proofs.Common.{◌≡◌, ℕ, zero, suc, ◌+◌, ◌<◌, ◌≤◌, Bool, true, false, cond, ◌&&◌, ◌||◌, nat_lt, length, map, take, get_or, List, [], ◌∷◌, ◌++◌, Some, Contains, slice_get, refl, sym, ap, ap₂, subst, ◌∙◌, arith}
use Rattle.std.specs.List.{flat_map, list_all}
use Rattle.std.proofs.lemmas.Bool.Decides.{nat_tests}
use Rattle.std.proofs.lemmas.List.{flat_map_more, length-map, take_all, take_more}
use Rattle.std.proofs.lemmas.Option.{slice_get_read, slice_get_within, slice_get-get_or}
use Rattle.vk_kinds.specs.declared.kinds.Signature.{Signature}
use Rattle.vk_kinds.specs.Sizes.{HeadTypes, SignatureTree, head_types, signature_tree}
use Rattle.vk_names.specs.Spelling.{IsScalar}
use Rattle.vk_variants.specs.Directives.{IsNamed, function_names}
use Rattle.vk_unit_rules.specs.declared.rules.UnitRule.TheVariants.{C8, C13, C16, C17, C18}
use Rattle.vk_ast.specs.Directives.{DirectiveTree}
use Rattle.vk_ast.specs.Units.{FunctionTree, ItemTree, function, object, lost_line}
use Rattle.vk_rules_book.specs.declared.faults.Fault.{Fault}
use Rattle.vk_rules_book.specs.Faults.{fault_at, when}
use Rattle.vk_rules_book.specs.Directives.{has_signature}
use Rattle.vk_rules_book.specs.Items.{is_too_large, is_wrong_again, is_wrong_main, is_wrong_print, item_faults, passes}
use Rattle.vk_rules_book.specs.Scopes.{is_long, is_main, is_print, text_of}
use Rattle.vk_rules_book.specs.Signatures.{head_of, signature_of}
use Rattle.vk_rules_book.specs.Visits.{along, directives_part, function_part, item_visits}
use Rattle.vk_rules_book.specs.Rules.{Subject, faults_of}
use Rattle.vk_rules.specs.declared.accepted.Source.{Source}
use Rattle.vk_rules.specs.declared.entries.Entry.{Entry}
use Rattle.vk_rules.specs.Entries.{AreEntries, IsEntry}
use Rattle.vk_rules.specs.Functions.{functions_from, functions_of}
use Rattle.vk_rules.specs.UnitNames.{HaveIdentifiers, names_of_function, unit_names}
use Rattle.vk_rules.specs.Verdicts.{judged}
use Rattle.vk_rules.proofs.Listed.{entry_at, functions_cons, functions_none, same_count}
use Rattle.vk_rules.proofs.Parts.{all_faults, faults}
use Rattle.vk_rules.proofs.Placed.{signature_count, signature_named}
use Rattle.vk_rules.proofs.Quiet.{quiet_left, quiet_part, quiet_right, when_not}
use Rattle.vk_rules.proofs.Tests.{both_left, both_right}

-- ---- a function of a unit is one of its items

pub record IsDeclared (items : List ItemTree) (f : FunctionTree) : Type 0 where
  pub before : List ItemTree
  pub behind : List ItemTree
  pub there : items ≡ before ++ function f ∷ behind

one_further : (i : ItemTree) (is : List ItemTree) (f : FunctionTree) → IsDeclared is f → IsDeclared (i ∷ is) f
one_further i is f d = record { before = i ∷ d.before; behind = d.behind; there = ap (λ xs. i ∷ xs) d.there }

at_function : (b : Bool) (g f : FunctionTree) (is : List ItemTree) (rest : List FunctionTree) (k : ℕ) → ((j : ℕ) → slice_get rest j ≡ Some f → IsDeclared is f)
    → slice_get (cond b [] (g ∷ []) ++ rest) k ≡ Some f → IsDeclared (function g ∷ is) f
at_function true g f is rest k next at = one_further (function g) is f (next k at)
at_function false g f is rest zero next at = let same : g ≡ f = cc in record { before = []; behind = is; there = ap (λ (h : FunctionTree). function h ∷ is) same }
at_function false g f is rest (suc k) next at = one_further (function g) is f (next k at)

none_at : (f : FunctionTree) (k : ℕ) → slice_get [] k ≡ Some f → ⊥
none_at f k at = let below = slice_get_within [] k f at in omega (arith, below)

declared_in : (texts : List (List ℕ)) (before rest : List ItemTree) (k : ℕ) (f : FunctionTree) → slice_get (functions_from texts before rest) k ≡ Some f → IsDeclared rest f
declared_in texts before [] k f at = absurd (none_at f k (ap (λ (fs : List FunctionTree). slice_get fs k) (sym (functions_none texts before)) ∙ at))
declared_in texts before (function g ∷ is) k f at =
    at_function _ g f is (functions_from texts (before ++ function g ∷ []) is) k (λ j here. declared_in texts (before ++ function g ∷ []) is j f here)
    (ap (λ (fs : List FunctionTree). slice_get fs k) (sym (functions_cons texts before (function g) is)) ∙ at)
declared_in texts before (object o ∷ is) k f at =
    one_further (object o) is f (declared_in texts (before ++ object o ∷ []) is k f (ap (λ (fs : List FunctionTree). slice_get fs k) (sym (functions_cons texts before (object o) is)) ∙ at))
declared_in texts before (lost_line d ∷ is) k f at =
    one_further (lost_line d) is f (declared_in texts (before ++ lost_line d ∷ []) is k f (ap (λ (fs : List FunctionTree). slice_get fs k) (sym (functions_cons texts before (lost_line d) is)) ∙ at))

pub declared_as : (unit : Subject) (f : FunctionTree) → Contains (functions_of unit) f → IsDeclared unit.items f
declared_as unit f (k, lt, at) = declared_in unit.texts [] unit.items k f (slice_get-get_or (functions_of unit) k f lt ∙ ap (λ (g : FunctionTree). Some g) at)

-- ---- its name is short

module _ (unit : Subject) where
  short_name : (before : List ItemTree) (f : FunctionTree) → item_faults unit.texts unit.items before (function f) ≡ [] → is_long unit.texts f.name ≡ false
  unfolding item_faults
  short_name before f e =
      let wrong : List Fault = when ((is_print unit.texts f.name && is_wrong_print f) || (is_main unit.texts f.name && is_wrong_main f)) (fault_at f.line f.token C8) in
      let again : List Fault = when (is_wrong_again before f.name (function f)) (fault_at f.line f.token C13) in
      let long : List Fault = when (is_long unit.texts f.name) (fault_at f.line f.token C16) in
      let rest : List Fault = when (passes unit.texts unit.items before (function f)) (fault_at f.line f.token C17) ++ when (is_too_large f f.body) (fault_at f.line f.token C18) in
      when_not (is_long unit.texts f.name) (fault_at f.line f.token C16) (quiet_left long rest (quiet_right again (long ++ rest) (quiet_right wrong (again ++ (long ++ rest)) e)))

  function_short : (k : ℕ) (f : FunctionTree) → faults_of unit ≡ [] → slice_get (functions_of unit) k ≡ Some f → is_long unit.texts f.name ≡ false
  function_short k f quiet at =
      let d = declared_in unit.texts [] unit.items k f at in
      let here : faults unit (item_visits unit.texts d.before (function f)) ≡ [] =
      quiet_part unit (item_visits unit.texts) [] d.before (function f) d.behind
      (ap (λ xs. faults unit (along (item_visits unit.texts) [] xs)) (sym d.there) ∙ sym (all_faults unit) ∙ quiet) in
      short_name d.before f (quiet_left (item_faults unit.texts unit.items d.before (function f)) (faults unit (directives_part d.before (function f) ++ function_part unit.texts d.before (function f))) here)

  at_most : (text : List ℕ) → nat_lt 1024 (length text) ≡ false → length text ≤ 1024
  at_most text h = grind (arith, nat_tests)

  contains : (k : ℕ) (f : FunctionTree) → slice_get (functions_of unit) k ≡ Some f → Contains (functions_of unit) f
  contains k f at =
      let lt = slice_get_within (functions_of unit) k f at in
      let here : Some (get_or (functions_of unit) k f) ≡ Some f = sym (slice_get-get_or (functions_of unit) k f lt) ∙ at in
      (k, lt, cc)

  pub scalar_of : (k : ℕ) (f : FunctionTree) (e : Entry) (text : List ℕ) → faults_of unit ≡ [] → HaveIdentifiers unit → slice_get (functions_of unit) k ≡ Some f → IsEntry f e → text ≡ text_of unit.texts e.name
      → IsScalar text
  scalar_of k f e text quiet named at is read =
      let i = named f (contains k f at) in
      subst IsScalar (sym (read ∙ ap (text_of unit.texts) is.name))
      (record { nonempty = i.nonempty; first = i.first; bytes = i.bytes; short = at_most (text_of unit.texts f.name) (function_short k f quiet at) })

-- ---- what a directive says

record IsSigned (f : FunctionTree) (s : SignatureTree) : Type 0 where
  of : DirectiveTree
  says : s ≡ signature_of f of
  sound : has_signature f of ≡ true

signed_at : (f : FunctionTree) (ss : List Signature) (ds : List DirectiveTree) (k : ℕ) (s : Signature) → map signature_tree ss ≡ map (signature_of f) ds → list_all (has_signature f) ds ≡ true
    → k < length ss → IsSigned f (signature_tree (get_or ss k s))
signed_at f [] ds k s same sound lt = absurd (omega arith)
signed_at f (x ∷ ss) [] k s same sound lt = cc
signed_at f (x ∷ ss) (d ∷ ds) zero s same sound lt =
    let head : signature_tree x ≡ signature_of f d = cc in record { of = d; says = head; sound = both_left (has_signature f d) (list_all (has_signature f) ds) sound }
signed_at f (x ∷ ss) (d ∷ ds) (suc k) s same sound lt =
    let tail : map signature_tree ss ≡ map (signature_of f) ds = cc in signed_at f ss ds k s tail (both_right (has_signature f d) (list_all (has_signature f) ds) sound) (omega (arith, lt))

entry_signed : (f : FunctionTree) (e : Entry) (k : ℕ) (s : Signature) → IsEntry f e → k < length e.signatures.items → IsSigned f (signature_tree (get_or e.signatures.items k s))
entry_signed f e k s is lt = signed_at f e.signatures.items f.directives k s is.signatures_are is.sound lt

pub all_named : (f : FunctionTree) (e : Entry) → IsEntry f e → (k : ℕ) (s : Signature) → k < length e.signatures.items → IsNamed (signature_tree (get_or e.signatures.items k s))
all_named f e is k s lt = let h = entry_signed f e k s is lt in subst IsNamed (sym h.says) (signature_named f h.of is.count h.sound)

types_count : (f : FunctionTree) → length (head_of f).params ≡ length f.params
types_count f = length-map f.params (λ p. p.ctype)

pub all_counted : (f : FunctionTree) (e : Entry) → IsEntry f e → (k : ℕ) (s : Signature) → k < length e.signatures.items
    → length (head_types e.head).params ≡ length (signature_tree (get_or e.signatures.items k s)).params
all_counted f e is k s lt =
    let h = entry_signed f e k s is lt in
    ap (λ (t : HeadTypes). length t.params) is.head ∙ types_count f ∙ sym (ap (λ (t : SignatureTree). length t.params) h.says ∙ signature_count f h.of)

-- ---- one function more

pub entry_of_loop : (fs : List FunctionTree) (es items : List Entry) (k : ℕ) (e : Entry) → items ≡ es → AreEntries fs es → k < length items → e ≡ get_or items k e
    → (f : FunctionTree) × (slice_get fs k ≡ Some f) × IsEntry f e
entry_of_loop fs es items k e same are lt is =
    entry_at fs es k e are (ap (λ (xs : List Entry). slice_get xs k) (sym same) ∙ slice_get_read items (length items) k e refl lt is)

grown_by : (fs : List FunctionTree) (k : ℕ) (f : FunctionTree) → slice_get fs k ≡ Some f → take (k + 1) fs ≡ take k fs ++ f ∷ []
grown_by fs k f at =
    let lt = slice_get_within fs k f at in
    let here : Some (get_or fs k f) ≡ Some f = sym (slice_get-get_or fs k f lt) ∙ at in
    let same : get_or fs k f ≡ f = cc in
    take_more fs k f lt ∙ ap (λ (g : FunctionTree). take k fs ++ g ∷ []) same

module _ (unit : Subject) where
  pub names_more : (k : ℕ) (f : FunctionTree) (e : Entry) (text : List ℕ) (old new : List (List ℕ)) → slice_get (functions_of unit) k ≡ Some f → IsEntry f e → text ≡ text_of unit.texts e.name
      → old ≡ flat_map (names_of_function unit) (take k (functions_of unit)) → new ≡ old ++ function_names unit.target text (head_types e.head) (map signature_tree e.signatures.items)
      → new ≡ flat_map (names_of_function unit) (take (k + 1) (functions_of unit))
  names_more k f e text old new at is read before added =
      added
      ∙ ap₂ (λ (xs ys : List (List ℕ)). xs ++ ys) before
      (ap (λ (t : List ℕ). function_names unit.target t (head_types e.head) (map signature_tree e.signatures.items)) (read ∙ ap (text_of unit.texts) is.name)
      ∙ ap (λ (h : HeadTypes). function_names unit.target (text_of unit.texts f.name) h (map signature_tree e.signatures.items)) is.head
      ∙ ap (λ (ss : List SignatureTree). function_names unit.target (text_of unit.texts f.name) (head_of f) ss) is.signatures_are)
      ∙ flat_map_more (names_of_function unit) [] (take k (functions_of unit)) f
      ∙ ap (flat_map (names_of_function unit)) (sym (grown_by (functions_of unit) k f at))

  pub all_names : (es items : List Entry) (k : ℕ) (list : List (List ℕ)) → items ≡ es → AreEntries (functions_of unit) es → length items ≤ k
      → list ≡ flat_map (names_of_function unit) (take k (functions_of unit)) → list ≡ unit_names unit
  unfolding unit_names
  all_names es items k list same are past is =
      let count = same_count (functions_of unit) es are in
      let own = ap length same in
      is ∙ ap (flat_map (names_of_function unit)) (take_all k (functions_of unit) (omega (arith, past, count, own)))

-- the names of the same unit
pub names_again : (s t : Source) (k : ℕ) (list : List (List ℕ)) → s ≡ t → list ≡ flat_map (names_of_function (judged s)) (take k (functions_of (judged s)))
    → list ≡ flat_map (names_of_function (judged t)) (take k (functions_of (judged t)))
names_again s t k list same is = subst (λ (u : Source). list ≡ flat_map (names_of_function (judged u)) (take k (functions_of (judged u)))) same is
