-- The sizes of a unit that breaks no rule.
use Rattle.std.proofs.Common.{◌≡◌, ℕ, zero, suc, ◌+◌, ◌≤◌, Bool, true, false, ◌&&◌, ◌||◌, length, nat_le, nat_lt, List, [], ◌∷◌, ◌++◌, Contains, Option, Some, refl, sym, ap, subst, ◌∙◌, arith}
use Rattle.std.specs.List.{AllByRecursion}
use Rattle.std.proofs.lemmas.Bool.Decides.{nat_tests}
use Rattle.std.proofs.lemmas.List.{append-nil, append_assoc}
use Rattle.vk_ast.specs.Statements.{StmtTree}
use Rattle.vk_ast.specs.Units.{FunctionTree, ItemTree, function, object, lost_line, function_nodes}
use Rattle.vk_unit_rules.specs.declared.rules.UnitRule.TheVariants.{C8, C13, C16, C17, C18}
use Rattle.vk_rules_book.specs.declared.faults.Fault.{Fault}
use Rattle.vk_rules_book.specs.Faults.{fault_at, when}
use Rattle.vk_rules_book.specs.Items.{cost_at, costs, is_too_large, is_wrong_again, is_wrong_main, is_wrong_print, item_faults, locals_of, passes}
use Rattle.vk_rules_book.specs.Rules.{Subject, faults_of}
use Rattle.vk_rules_book.specs.Scopes.{is_long, is_main, is_print}
use Rattle.vk_rules_book.specs.Visits.{along, item, item_visits}
use Rattle.vk_rules_laws.proofs.Each.{IsQuiet, back, front, unit_quiet}
use Rattle.vk_rules.proofs.Quiet.{quiet_left, quiet_right, when_not}

-- what a function of a unit that breaks no rule keeps
pub record IsQuietFunction (unit : Subject) (before : List ItemTree) (f : FunctionTree) : Type 0 where
  pub print : (is_print unit.texts f.name && is_wrong_print f) ≡ false
  pub again : is_wrong_again before f.name (function f) ≡ false
  pub sum : passes unit.texts unit.items before (function f) ≡ false
  pub size : is_too_large f f.body ≡ false

pub first_false : (a b : Bool) → (a || b) ≡ false → a ≡ false
first_false true b e = e
first_false false b e = refl

pub quiet_function : (unit : Subject) (before : List ItemTree) (f : FunctionTree) → item_faults unit.texts unit.items before (function f) ≡ [] → IsQuietFunction unit before f
unfolding item_faults
quiet_function unit before f e =
    let own : List Fault = when ((is_print unit.texts f.name && is_wrong_print f) || (is_main unit.texts f.name && is_wrong_main f)) (fault_at f.line f.token C8) in
    let again : List Fault = when (is_wrong_again before f.name (function f)) (fault_at f.line f.token C13) in
    let long : List Fault = when (is_long unit.texts f.name) (fault_at f.line f.token C16) in
    let sum : List Fault = when (passes unit.texts unit.items before (function f)) (fault_at f.line f.token C17) in
    let size : List Fault = when (is_too_large f f.body) (fault_at f.line f.token C18) in
    let rest1 = quiet_right own (again ++ (long ++ (sum ++ size))) e in
    let rest2 = quiet_right again (long ++ (sum ++ size)) rest1 in
    let rest3 = quiet_right long (sum ++ size) rest2 in
    record {
      print = first_false (is_print unit.texts f.name && is_wrong_print f) (is_main unit.texts f.name && is_wrong_main f)
          (when_not ((is_print unit.texts f.name && is_wrong_print f) || (is_main unit.texts f.name && is_wrong_main f)) (fault_at f.line f.token C8) (quiet_left own (again ++ (long ++ (sum ++ size))) e));
      again = when_not (is_wrong_again before f.name (function f)) (fault_at f.line f.token C13) (quiet_left again (long ++ (sum ++ size)) rest1);
      sum = when_not (passes unit.texts unit.items before (function f)) (fault_at f.line f.token C17) (quiet_left sum size rest3);
      size = when_not (is_too_large f f.body) (fault_at f.line f.token C18) (quiet_right sum size rest3);
    }

-- ---- C18

within : (locals nodes : ℕ) → (nat_lt 512 locals || nat_lt 2000 nodes) ≡ false → (locals ≤ 512) × (nodes ≤ 2000)
within locals nodes e = (left_within locals (nat_lt 2000 nodes) e, right_within nodes (nat_lt 512 locals) e)
  where
    left_within : (n : ℕ) (b : Bool) → (nat_lt 512 n || b) ≡ false → n ≤ 512
    left_within n b e = grind (arith, nat_tests)

    right_within : (n : ℕ) (b : Bool) → (b || nat_lt 2000 n) ≡ false → n ≤ 2000
    right_within n true e = cc
    right_within n false e = grind (arith, nat_tests)

pub size_fits : (f : FunctionTree) (b : Option StmtTree) (body : StmtTree) → b ≡ Some body → is_too_large f b ≡ false
    → (length f.params + locals_of body ≤ 512) × (function_nodes f ≤ 2000)
size_fits f b body is e = within (length f.params + locals_of body) (function_nodes f) (subst (λ (o : Option StmtTree). is_too_large f o ≡ false) is e)

-- ---- C17

module _ (unit : Subject) where
  abbrev sum_of : (before rest : List ItemTree) → ℕ
  sum_of before rest = costs unit.texts unit.items before rest

  abbrev cost_of : (before : List ItemTree) (i : ItemTree) → ℕ
  cost_of before i = cost_at unit.texts unit.items before i

  regroup : (a b c d : ℕ) → b ≡ c + d → a + b ≡ a + c + d
  regroup a b c d e = omega arith

  sum_last : (outer before : List ItemTree) (i : ItemTree) → sum_of outer (before ++ i ∷ []) ≡ sum_of outer before + cost_of (outer ++ before) i
  unfolding costs
  sum_last outer [] i = ap (λ (xs : List ItemTree). cost_at unit.texts unit.items xs i + 0) (sym (append-nil outer)) ∙ zero_between (cost_at unit.texts unit.items (outer ++ []) i)
    where
      zero_between : (n : ℕ) → n + 0 ≡ 0 + n
      zero_between n = omega arith
  sum_last outer (x ∷ before) i =
      regroup (cost_at unit.texts unit.items outer x) (costs unit.texts unit.items (outer ++ x ∷ []) (before ++ i ∷ [])) (costs unit.texts unit.items (outer ++ x ∷ []) before)
      (cost_at unit.texts unit.items (outer ++ x ∷ before) i)
      (sum_last (outer ++ x ∷ []) before i
      ∙ ap (λ (xs : List ItemTree). costs unit.texts unit.items (outer ++ x ∷ []) before + cost_at unit.texts unit.items xs i) (append_assoc outer (x ∷ []) before))

  one_fits : (n m : ℕ) → n ≤ 40000 → (nat_le n 40000 && nat_lt 40000 (n + m)) ≡ false → n + m ≤ 40000
  one_fits n m le e = grind (arith, nat_tests)

  item_fits : (before : List ItemTree) (i : ItemTree) → IsQuiet unit (item before i) → sum_of [] before ≤ 40000 → sum_of [] before + cost_of before i ≤ 40000
  item_fits before (function f) q le = one_fits (costs unit.texts unit.items [] before) (cost_at unit.texts unit.items before (function f)) le (quiet_function unit before f q).sum
  item_fits before (object o) q le = omega arith
  item_fits before (lost_line d) q le = omega arith

  quiet_item : (before : List ItemTree) (i : ItemTree) → AllByRecursion (IsQuiet unit) (item_visits unit.texts before i) → IsQuiet unit (item before i)
  quiet_item before (function f) q = q.0
  quiet_item before (object o) q = q.0
  quiet_item before (lost_line d) q = q.0

  all_fit : (before rest : List ItemTree) → AllByRecursion (IsQuiet unit) (along (item_visits unit.texts) before rest) → sum_of [] before ≤ 40000
      → sum_of [] before + sum_of before rest ≤ 40000
  unfolding costs
  all_fit before [] q le = omega arith
  all_fit before (i ∷ rest) q le =
      let here = item_visits unit.texts before i in
      let behind = along (item_visits unit.texts) (before ++ i ∷ []) rest in
      let fits = item_fits before i (quiet_item before i (front (IsQuiet unit) here behind q)) le in
      let one_more = sum_last [] before i in
      let more = all_fit (before ++ i ∷ []) rest (back (IsQuiet unit) here behind q) (le_of (costs unit.texts unit.items [] (before ++ i ∷ [])) (costs unit.texts unit.items [] before) (cost_at unit.texts unit.items before i) one_more fits) in
      joined (costs unit.texts unit.items [] before) (cost_at unit.texts unit.items before i) (costs unit.texts unit.items (before ++ i ∷ []) rest) (costs unit.texts unit.items [] (before ++ i ∷ [])) one_more more
    where
      le_of : (a b c : ℕ) → a ≡ b + c → b + c ≤ 40000 → a ≤ 40000
      le_of a b c e le = omega arith

      joined : (a b c d : ℕ) → d ≡ a + b → d + c ≤ 40000 → a + (b + c) ≤ 40000
      joined a b c d e le = omega arith

  pub sum_fits : faults_of unit ≡ [] → costs unit.texts unit.items [] unit.items ≤ 40000
  unfolding costs
  sum_fits quiet = let all = all_fit [] unit.items (unit_quiet unit quiet) (omega arith) in omega (arith, all)

  -- ---- each function

  along_function : (before rest : List ItemTree) (f : FunctionTree) → AllByRecursion (IsQuiet unit) (along (item_visits unit.texts) before rest) → Contains rest (function f)
      → (behind : List ItemTree) × IsQuietFunction unit behind f
  along_function before [] f q (k, lt, at) = absurd (omega (arith, lt))
  along_function before (i ∷ rest) f q (zero, lt, at) =
      let here = item_visits unit.texts before i in
      let more = along (item_visits unit.texts) (before ++ i ∷ []) rest in
      (before, quiet_function unit before f (subst (λ (j : ItemTree). IsQuiet unit (item before j)) at (quiet_item before i (front (IsQuiet unit) here more q))))
  along_function before (i ∷ rest) f q (suc k, lt, at) =
      let here = item_visits unit.texts before i in
      let more = along (item_visits unit.texts) (before ++ i ∷ []) rest in
      along_function (before ++ i ∷ []) rest f (back (IsQuiet unit) here more q) (k, omega (arith, lt), at)

  pub definition_fits : faults_of unit ≡ [] → (f : FunctionTree) → Contains unit.items (function f) → (body : StmtTree) → f.body ≡ Some body
      → (length f.params + locals_of body ≤ 512) × (function_nodes f ≤ 2000)
  definition_fits quiet f is_in body is = size_fits f f.body body is (along_function [] unit.items f (unit_quiet unit quiet) is_in).1.size
