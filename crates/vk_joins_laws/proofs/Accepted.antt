-- What accepted units keep: `print` is not defined, `main` has no parameters, and arrays have different names.
use Rattle.std.proofs.Common.{◌≡◌, ◌⊎◌, inl, inr, zero, suc, Bool, true, false, cond, ◌&&◌, ◌||◌, not, List, [], ◌∷◌, ◌++◌, filter_map, codes, Contains, Option, Some, None, is_none, bytes_eq, refl, sym, ap, subst, ◌∙◌, arith}
use Rattle.std.specs.List.{AllByRecursion, cons_option, list_any}
use Rattle.std.specs.Option.{option_or}
use Rattle.std.proofs.lemmas.Bool.Decides.{Decides-eqb}
use Rattle.std.proofs.lemmas.List.{append_assoc}
use Rattle.std.proofs.lemmas.List.Elements.{Contains-append_left, Contains-append_right}
use Rattle.std.proofs.lemmas.Slice.Eq.{bytes_eq-Decides}
use Rattle.vk_types.specs.declared.types.Ty.TheVariants.{I32, I64}
use Rattle.vk_kinds.specs.declared.heads.CType.{CType}
use Rattle.vk_kinds.specs.declared.heads.CType.TheVariants.{Int, Void}
use Rattle.vk_ast.specs.declared.names.NameId.{NameId}
use Rattle.vk_ast.specs.Statements.{StmtTree}
use Rattle.vk_ast.specs.Units.{FunctionTree, ItemTree, ObjectTree, function, object, lost_line}
use Rattle.vk_unit_rules.specs.declared.rules.UnitRule.TheVariants.{C8, C11, C12, C13, C16, C17, C18}
use Rattle.vk_rules_book.specs.declared.faults.Fault.{Fault}
use Rattle.vk_rules_book.specs.Faults.{fault_at, when}
use Rattle.vk_rules_book.specs.Items.{defines, disagrees, has_no_length, has_wrong_initialiser, is_plainly, is_too_large, is_wrong_again, is_wrong_main, is_wrong_print, item_faults, passes, same_ctype, same_ctypes}
use Rattle.vk_rules_book.specs.Rules.{Subject}
use Rattle.vk_rules_book.specs.Scopes.{first_declaration, has_directives, is_long, is_main, is_print, same_name, text_of, types_of}
use Rattle.vk_rules_book.specs.Visits.{Visit, along, item, item_visits}
use Rattle.vk_rules.proofs.Quiet.{quiet_left, quiet_right, when_not}
use Rattle.vk_rules_laws.proofs.Each.{IsQuiet, back, front, unit_quiet}
use Rattle.vk_meaning.specs.Programs.{Definition, array_defined, array_of_object, defined_behind, defined_by, with_body}
use Rattle.vk_agree.specs.Units.{IsAccepted, definition_in, param_types}
use Rattle.vk_joins_laws.proofs.Lists.{both_first, both_second, here}
use Rattle.vk_joins_laws.proofs.Order.{AreDifferent, IsNone}

-- ---- tests

not_false : (b : Bool) → not b ≡ false → b ≡ true
not_false true h = refl
not_false false h = cc

or_first : (a b : Bool) → (a || b) ≡ false → a ≡ false
or_first true b h = h
or_first false b h = refl

or_second : (a b : Bool) → (a || b) ≡ false → b ≡ false
or_second true b h = cc
or_second false b h = h

-- ---- what the rules say of one item

quiet_item : (u : Subject) (before : List ItemTree) (i : ItemTree) → AllByRecursion (IsQuiet u) (item_visits u.texts before i) → IsQuiet u (item before i)
quiet_item u before (function f) q = q.0
quiet_item u before (object o) q = q.0
quiet_item u before (lost_line d) q = q.0

pub record HasBuiltins (u : Subject) (f : FunctionTree) : Type 0 where
  pub print : (is_print u.texts f.name && is_wrong_print f) ≡ false
  pub main : (is_main u.texts f.name && is_wrong_main f) ≡ false

has_builtins : (u : Subject) (before : List ItemTree) (f : FunctionTree) → IsQuiet u (item before (function f)) → HasBuiltins u f
unfolding item_faults
has_builtins u before f e =
    let wrong : Bool = (is_print u.texts f.name && is_wrong_print f) || (is_main u.texts f.name && is_wrong_main f) in
    let own : List Fault = when wrong (fault_at f.line f.token C8) in
    let again : List Fault = when (is_wrong_again before f.name (function f)) (fault_at f.line f.token C13) in
    let long : List Fault = when (is_long u.texts f.name) (fault_at f.line f.token C16) in
    let sum : List Fault = when (passes u.texts u.items before (function f)) (fault_at f.line f.token C17) in
    let size : List Fault = when (is_too_large f f.body) (fault_at f.line f.token C18) in
    let h : wrong ≡ false = when_not wrong (fault_at f.line f.token C8) (quiet_left own (again ++ (long ++ (sum ++ size))) e) in
    record {
      print = or_first (is_print u.texts f.name && is_wrong_print f) (is_main u.texts f.name && is_wrong_main f) h;
      main = or_second (is_print u.texts f.name && is_wrong_print f) (is_main u.texts f.name && is_wrong_main f) h;
    }

pub not_again : (u : Subject) (before : List ItemTree) (o : ObjectTree) → IsQuiet u (item before (object o)) → is_wrong_again before o.name (object o) ≡ false
unfolding item_faults
not_again u before o e =
    let own : List Fault = when (is_print u.texts o.name || is_main u.texts o.name) (fault_at o.line o.token C8) in
    let wrong : List Fault = when (has_wrong_initialiser o) (fault_at o.init_line o.init_token C11) in
    let short : List Fault = when (has_no_length o) (fault_at o.line o.token C12) in
    let again : List Fault = when (is_wrong_again before o.name (object o)) (fault_at o.line o.token C13) in
    let long : List Fault = when (is_long u.texts o.name) (fault_at o.line o.token C16) in
    when_not (is_wrong_again before o.name (object o)) (fault_at o.line o.token C13)
    (quiet_left again long (quiet_right short (again ++ long) (quiet_right wrong (short ++ (again ++ long)) (quiet_right own (wrong ++ (short ++ (again ++ long))) e))))

-- ---- functions

no_body : (u : Subject) (items : List ItemTree) (f : FunctionTree) (b : Option StmtTree) → is_none b ≡ true → with_body u items f b ≡ None
no_body u items f None h = refl
no_body u items f (Some body) h = cc

module _ (u : Subject) where
  print_by : (before : List ItemTree) (i : ItemTree) → IsQuiet u (item before i) → (items : List ItemTree) → defined_by (codes "print") u items i ≡ None
  print_by before (object o) q items = refl
  print_by before (lost_line d) q items = refl
  print_by before (function f) q items = at (is_print u.texts f.name) (has_builtins u before f q).print
    where
      at : (b : Bool) → (b && is_wrong_print f) ≡ false → cond b (with_body u items f f.body) None ≡ None
      at false h = refl
      at true h = no_body u items f f.body (both_second (is_plainly Void (Int I64 ∷ []) f) (is_none f.body) (not_false (is_plainly Void (Int I64 ∷ []) f && is_none f.body) h))

  none_or : (a b : Option Definition) → a ≡ None → b ≡ None → option_or a b ≡ None
  none_or None b h k = k
  none_or (Some d) b h k = cc

  no_print : (before rest : List ItemTree) → AllByRecursion (IsQuiet u) (along (item_visits u.texts) before rest) → defined_behind (codes "print") u before rest ≡ None
  no_print before [] q = refl
  no_print before (i ∷ rest) q =
      let own = item_visits u.texts before i in
      let more = along (item_visits u.texts) (before ++ i ∷ []) rest in
      none_or (defined_by (codes "print") u (before ++ i ∷ []) i) (defined_behind (codes "print") u (before ++ i ∷ []) rest)
      (print_by before i (quiet_item u before i (front (IsQuiet u) own more q)) (before ++ i ∷ [])) (no_print (before ++ i ∷ []) rest (back (IsQuiet u) own more q))

  no_types : (ts : List CType) → same_ctypes ts [] ≡ true → ts ≡ []
  unfolding same_ctypes
  no_types [] h = refl
  no_types (t ∷ ts) h = cc

  body_of : (items : List ItemTree) (f : FunctionTree) (b : Option StmtTree) (d : Definition) → with_body u items f b ≡ Some d → types_of f.params ≡ [] → param_types d ≡ []
  body_of items f None d h e = cc
  body_of items f (Some body) d h e = subst (λ (x : Definition). param_types x ≡ []) (some_same _ d h) e
    where
      some_same : (x y : Definition) → Some x ≡ Some y → x ≡ y
      some_same x y k = cc

  main_by : (before : List ItemTree) (i : ItemTree) → IsQuiet u (item before i) → (items : List ItemTree) (d : Definition) → defined_by (codes "main") u items i ≡ Some d → param_types d ≡ []
  main_by before (object o) q items d e = cc
  main_by before (lost_line l) q items d e = cc
  main_by before (function f) q items d e = at (is_main u.texts f.name) (has_builtins u before f q).main e
    where
      plainly : is_wrong_main f ≡ false → types_of f.params ≡ []
      plainly h =
          no_types (types_of f.params)
          (both_second (same_ctype f.result (Int I32)) (same_ctypes (types_of f.params) [])
          (both_first (same_ctype f.result (Int I32) && same_ctypes (types_of f.params) []) (not (has_directives f.directives)) (not_false (is_plainly (Int I32) [] f) h)))

      at : (b : Bool) → (b && is_wrong_main f) ≡ false → cond b (with_body u items f f.body) None ≡ Some d → param_types d ≡ []
      at false h k = cc
      at true h k = body_of items f f.body d k (plainly h)

  some_of : (a b : Option Definition) (d : Definition) → option_or a b ≡ Some d → (a ≡ Some d) ⊎ (b ≡ Some d)
  some_of None b d h = inr h
  some_of (Some x) b d h = inl h

  main_plain : (before rest : List ItemTree) → AllByRecursion (IsQuiet u) (along (item_visits u.texts) before rest) → (d : Definition) → defined_behind (codes "main") u before rest ≡ Some d → param_types d ≡ []
  main_plain before [] q d e = cc
  main_plain before (i ∷ rest) q d e =
      either (some_of (defined_by (codes "main") u (before ++ i ∷ []) i) (defined_behind (codes "main") u (before ++ i ∷ []) rest) d e) (λ k. main_plain (before ++ i ∷ []) rest (back (IsQuiet u) own more q) d k)
    where
      own : List Visit
      own = item_visits u.texts before i

      more : List Visit
      more = along (item_visits u.texts) (before ++ i ∷ []) rest

      either : (defined_by (codes "main") u (before ++ i ∷ []) i ≡ Some d) ⊎ (defined_behind (codes "main") u (before ++ i ∷ []) rest ≡ Some d) → (defined_behind (codes "main") u (before ++ i ∷ []) rest ≡ Some d → param_types d ≡ []) → param_types d ≡ []
      either (inl h) next = main_by before i (quiet_item u before i (front (IsQuiet u) own more q)) (before ++ i ∷ []) d h
      either (inr h) next = next h

pub print_undefined : (u : Subject) → IsAccepted u → definition_in (codes "print") u ≡ None
print_undefined u a = no_print u [] u.items (unit_quiet u a.sound)

pub main_has_no_parameters : (u : Subject) → IsAccepted u → (d : Definition) → definition_in (codes "main") u ≡ Some d → param_types d ≡ []
main_has_no_parameters u a d e = main_plain u [] u.items (unit_quiet u a.sound) d e

-- ---- arrays

same_itself : (a : NameId) → same_name a a ≡ true
same_itself a = (Decides-eqb a.0 a.0).1 refl

module _ (u : Subject) (accepted : IsAccepted u) where
  list_any_in : (p : ItemTree → Bool) (xs : List ItemTree) (x : ItemTree) → Contains xs x → p x ≡ true → list_any p xs ≡ true
  list_any_in p [] x (k, lt, at) h = absurd (omega (arith, lt))
  list_any_in p (y ∷ xs) x (zero, lt, at) h = left (p y) (list_any p xs) (ap p at ∙ h)
    where
      left : (a b : Bool) → a ≡ true → (a || b) ≡ true
      left true b h = refl
      left false b h = cc
  list_any_in p (y ∷ xs) x (suc k, lt, at) h = right (p y) (list_any p xs) (list_any_in p xs x (k, omega (arith, lt), at) h)
    where
      right : (a b : Bool) → b ≡ true → (a || b) ≡ true
      right true b h = refl
      right false b h = h

  -- a later definition has another name
  other_name : (before rest : List ItemTree) (o p : ObjectTree) → u.items ≡ before ++ object p ∷ rest → IsQuiet u (item before (object p)) → Contains before (object o) → o.outside ≡ false → p.outside ≡ false →
      bytes_eq (text_of u.texts o.name) (text_of u.texts p.name) ≡ false
  other_name before rest o p split q among own other = at (bytes_eq (text_of u.texts o.name) (text_of u.texts p.name)) refl
    where
      defines_first : same_name o.name p.name ≡ true → defines p.name (object o) ≡ true
      defines_first e = subst (λ (b : Bool). (b && not o.outside) ≡ true) (sym e) (ap not own)

      defines_second : defines p.name (object p) ≡ true
      defines_second = subst (λ (b : Bool). (b && not p.outside) ≡ true) (sym (same_itself p.name)) (ap not other)

      same : text_of u.texts o.name ≡ text_of u.texts p.name → same_name o.name p.name ≡ true
      same e = accepted.one_name (object o) (object p)
          (subst (λ (xs : List ItemTree). Contains xs (object o)) (sym split) (Contains-append_left before (object p ∷ rest) (object o) among))
          (subst (λ (xs : List ItemTree). Contains xs (object p)) (sym split) (Contains-append_right before (object p ∷ rest) (object p) (here (object p) rest)))
          o.name p.name (same_itself o.name) (same_itself p.name) e

      twice : same_name o.name p.name ≡ true → (defines p.name (object p) && list_any (defines p.name) before) ≡ true
      twice e = subst (λ (b : Bool). (b && list_any (defines p.name) before) ≡ true) (sym defines_second) (list_any_in (defines p.name) before (object o) among (defines_first e))

      never : same_name o.name p.name ≡ true → ⊥
      never e = no (sym (twice e) ∙ or_second (disagrees (first_declaration before p.name) (object p)) (defines p.name (object p) && list_any (defines p.name) before) (not_again u before p q))
        where
          no : true ≡ false → ⊥
          no h = cc

      at : (b : Bool) → bytes_eq (text_of u.texts o.name) (text_of u.texts p.name) ≡ b → b ≡ false
      at true e = absurd (never (same ((bytes_eq-Decides (text_of u.texts o.name) (text_of u.texts p.name)).0 e)))
      at false e = refl

  none_behind : (before rest : List ItemTree) → u.items ≡ before ++ rest → AllByRecursion (IsQuiet u) (along (item_visits u.texts) before rest) → (o : ObjectTree) → Contains before (object o) → o.outside ≡ false →
      IsNone (text_of u.texts o.name) (filter_map (array_defined u) rest)
  none_behind before [] split q o among own = tt
  none_behind before (i ∷ rest) split q o among own =
      at i refl (none_behind (before ++ i ∷ []) rest (split ∙ sym (append_assoc before (i ∷ []) rest)) (back (IsQuiet u) (item_visits u.texts before i) (along (item_visits u.texts) (before ++ i ∷ []) rest) q) o
      (Contains-append_left before (i ∷ []) (object o) among) own)
    where
      quiet : IsQuiet u (item before i)
      quiet = quiet_item u before i (front (IsQuiet u) (item_visits u.texts before i) (along (item_visits u.texts) (before ++ i ∷ []) rest) q)

      one : (p : ObjectTree) → i ≡ object p → (b : Bool) → p.outside ≡ b → IsNone (text_of u.texts o.name) (filter_map (array_defined u) rest) →
          IsNone (text_of u.texts o.name) (cons_option (cond b None (Some (array_of_object u p))) (filter_map (array_defined u) rest))
      one p e true k next = next
      one p e false k next =
          (other_name before rest o p (subst (λ (j : ItemTree). u.items ≡ before ++ j ∷ rest) e split) (subst (λ (j : ItemTree). IsQuiet u (item before j)) e quiet) among own k, next)

      at : (j : ItemTree) → i ≡ j → IsNone (text_of u.texts o.name) (filter_map (array_defined u) rest) → IsNone (text_of u.texts o.name) (cons_option (array_defined u j) (filter_map (array_defined u) rest))
      at (function f) e next = next
      at (lost_line d) e next = next
      at (object p) e next = one p e p.outside refl next

  all_differ : (before rest : List ItemTree) → u.items ≡ before ++ rest → AllByRecursion (IsQuiet u) (along (item_visits u.texts) before rest) → AreDifferent (filter_map (array_defined u) rest)
  all_differ before [] split q = tt
  all_differ before (i ∷ rest) split q = at i refl (all_differ (before ++ i ∷ []) rest next_split next_quiet)
    where
      next_split : u.items ≡ (before ++ i ∷ []) ++ rest
      next_split = split ∙ sym (append_assoc before (i ∷ []) rest)

      next_quiet : AllByRecursion (IsQuiet u) (along (item_visits u.texts) (before ++ i ∷ []) rest)
      next_quiet = back (IsQuiet u) (item_visits u.texts before i) (along (item_visits u.texts) (before ++ i ∷ []) rest) q

      one : (p : ObjectTree) → i ≡ object p → (b : Bool) → p.outside ≡ b → AreDifferent (filter_map (array_defined u) rest) →
          AreDifferent (cons_option (cond b None (Some (array_of_object u p))) (filter_map (array_defined u) rest))
      one p e true k next = next
      one p e false k next =
          (none_behind (before ++ i ∷ []) rest next_split next_quiet p (Contains-append_right before (i ∷ []) (object p) (subst (λ (j : ItemTree). Contains (i ∷ []) j) e (here i []))) k, next)

      at : (j : ItemTree) → i ≡ j → AreDifferent (filter_map (array_defined u) rest) → AreDifferent (cons_option (array_defined u j) (filter_map (array_defined u) rest))
      at (function f) e next = next
      at (lost_line d) e next = next
      at (object p) e next = one p e p.outside refl next

-- the arrays of a unit have different names
pub arrays_differ : (u : Subject) → IsAccepted u → AreDifferent (filter_map (array_defined u) u.items)
arrays_differ u a = all_differ u a [] u.items refl (unit_quiet u a.sound)
