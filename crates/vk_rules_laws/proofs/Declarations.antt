-- The declarations of one name in a unit that breaks no rule.
use Rattle.std.proofs.Common.{◌≡◌, ℕ, ◌==◌, Bool, true, false, cond, ◌&&◌, ◌||◌, not, List, [], ◌∷◌, ◌++◌, Option, Some, None, is_some, refl, subst, arith}
use Rattle.std.specs.List.{list_any}
use Rattle.std.proofs.lemmas.Bool.Decides.{nat_tests}
use Rattle.vk_ast.specs.declared.names.NameId.{NameId}
use Rattle.vk_ast.specs.Directives.{DirectiveTree}
use Rattle.vk_ast.specs.Units.{FunctionTree, ItemTree, ObjectTree, function, object, lost_line}
use Rattle.vk_unit_rules.specs.declared.rules.UnitRule.TheVariants.{C8, C11, C12, C13, C16, D17}
use Rattle.vk_rules_book.specs.declared.faults.Fault.{Fault}
use Rattle.vk_rules_book.specs.Directives.{at_first, has_other_directives, redeclaration_faults}
use Rattle.vk_rules_book.specs.Faults.{fault_at, when}
use Rattle.vk_rules_book.specs.Items.{agrees, defines, disagrees, has_no_length, has_wrong_initialiser, is_wrong_again, item_faults}
use Rattle.vk_rules_book.specs.Rules.{Subject}
use Rattle.vk_rules_book.specs.Scopes.{first_declaration, has_directives, is_long, is_main, is_print}
use Rattle.vk_rules_laws.proofs.Sizes.{first_false}
use Rattle.vk_rules.proofs.Quiet.{quiet_left, quiet_right, when_not}

agreeing : (o : Option ItemTree) (first i : ItemTree) → o ≡ Some first → disagrees o i ≡ false → agrees first i ≡ true
agreeing o first i is e = still (agrees first i) (subst (λ (x : Option ItemTree). disagrees x i ≡ false) is e)
  where
    still : (b : Bool) → not b ≡ false → b ≡ true
    still true e = refl
    still false e = cc

pub agrees_again : (before : List ItemTree) (id : NameId) (i : ItemTree) → is_wrong_again before id i ≡ false → (first : ItemTree) → first_declaration before id ≡ Some first → agrees first i ≡ true
agrees_again before id i e first is =
    agreeing (first_declaration before id) first i is (first_false (disagrees (first_declaration before id) i) (defines id i && list_any (defines id) before) e)

pub defined_once : (before : List ItemTree) (f : FunctionTree) → is_wrong_again before f.name (function f) ≡ false → is_some f.body ≡ true → list_any (defines f.name) before ≡ false
defined_once before f e there =
    rest_false (disagrees (first_declaration before f.name) (function f)) (f.name.0 == f.name.0) (is_some f.body) (list_any (defines f.name) before) (same_number f.name.0) there e
  where
    same_number : (n : ℕ) → (n == n) ≡ true
    same_number n = grind (arith, nat_tests)

    rest_false : (a b c d : Bool) → b ≡ true → c ≡ true → (a || ((b && c) && d)) ≡ false → d ≡ false
    rest_false false true true d h k e = e
    rest_false false true false d h k e = cc
    rest_false false false c d h k e = cc
    rest_false true b c d h k e = cc

pub object_again : (unit : Subject) (before : List ItemTree) (o : ObjectTree) → item_faults unit.texts unit.items before (object o) ≡ [] → is_wrong_again before o.name (object o) ≡ false
unfolding item_faults
object_again unit before o e =
    let own : List Fault = when (is_print unit.texts o.name || is_main unit.texts o.name) (fault_at o.line o.token C8) in
    let initial : List Fault = when (has_wrong_initialiser o) (fault_at o.init_line o.init_token C11) in
    let size : List Fault = when (has_no_length o) (fault_at o.line o.token C12) in
    let again : List Fault = when (is_wrong_again before o.name (object o)) (fault_at o.line o.token C13) in
    let long : List Fault = when (is_long unit.texts o.name) (fault_at o.line o.token C16) in
    when_not (is_wrong_again before o.name (object o)) (fault_at o.line o.token C13)
    (quiet_left again long (quiet_right size (again ++ long) (quiet_right initial (size ++ (again ++ long)) (quiet_right own (initial ++ (size ++ (again ++ long))) e))))

pub same_directives : (before : List ItemTree) (f : FunctionTree) → redeclaration_faults before f ≡ [] → has_other_directives (first_declaration before f.name) f ≡ false
unfolding redeclaration_faults
same_directives before f e = of_first (first_declaration before f.name) e
  where
    none_there : (b : Bool) → (b ≡ true → has_directives f.directives ≡ true) → cond b (at_first D17 f.token f.directives) [] ≡ [] → b ≡ false
    none_there false h e = refl
    none_there true h e = absurd (no_list f.directives (h refl) e)
      where
        no_list : (ds : List DirectiveTree) → has_directives ds ≡ true → at_first D17 f.token ds ≡ [] → ⊥
        no_list [] h e = cc
        no_list (d ∷ ds) h e = cc

    left_true : (a b : Bool) → (a && b) ≡ true → a ≡ true
    left_true true b h = refl
    left_true false b h = h

    has_some : (o : Option ItemTree) → has_other_directives o f ≡ true → has_directives f.directives ≡ true
    has_some (Some (function g)) h = left_true (has_directives f.directives) _ h
    has_some (Some (object x)) h = cc
    has_some (Some (lost_line d)) h = cc
    has_some None h = cc

    of_first : (o : Option ItemTree) → cond (has_other_directives o f) (at_first D17 f.token f.directives) [] ≡ [] → has_other_directives o f ≡ false
    of_first o e = none_there (has_other_directives o f) (has_some o) e
