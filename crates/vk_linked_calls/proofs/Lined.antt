-- In an accepted unit a function with directives calls only functions with directives.
use Rattle.std.proofs.Common.{◌≡◌, ◌≢◌, ℕ, zero, suc, ◌==◌, Bool, true, false, not, ◌&&◌, List, [], ◌∷◌, ◌++◌, Contains, Option, Some, refl, sym, subst, arith}
use Rattle.std.specs.List.{AllByRecursion}
use Rattle.std.proofs.lemmas.Bool.Decides.{nat_tests}
use Rattle.std.proofs.lemmas.List.Elements.{Contains-append_left}
use Rattle.vk_ast.specs.declared.names.NameId.{NameId}
use Rattle.vk_ast.specs.Directives.{DirectiveTree}
use Rattle.vk_ast.specs.Tree.{Trees}
use Rattle.vk_ast.specs.Units.{FunctionTree, ItemTree, function}
use Rattle.vk_unit_rules.specs.declared.rules.UnitRule.TheVariants.{C8, C9, C16, D15}
use Rattle.vk_rules_book.specs.declared.contexts.Around.{Around}
use Rattle.vk_rules_book.specs.declared.faults.Fault.{Fault}
use Rattle.vk_rules_book.specs.declared.typings.Typing.{Typing}
use Rattle.vk_rules_book.specs.Expressions.{call_faults, called_faults, is_plain_function, is_simd, is_undeclared, is_wrong_call}
use Rattle.vk_rules_book.specs.Faults.{fault_at, fault_with, when}
use Rattle.vk_rules_book.specs.Rules.{Subject}
use Rattle.vk_rules_book.specs.Scopes.{Meaning, Scope, file_scope, first_declaration, has_directives, is_long, meaning_of, with_params}
use Rattle.vk_rules_book.specs.Typings.{typings_of}
use Rattle.vk_rules_book.specs.Visits.{around_body, called, first_number, number_of_item, stmt_visits}
use Rattle.vk_rules.proofs.Quiet.{quiet_right, when_not}
use Rattle.vk_rules_laws.proofs.Each.{IsQuiet}
use Rattle.vk_meaning.specs.Programs.{Definition, first_point}
use Rattle.vk_meaning_accepted.proofs.Definitions.{first_in}
use Rattle.vk_meaning_accepted.proofs.Programs.{body_quiet}
use Rattle.vk_agree.specs.Units.{IsAccepted, definition_in}
use Rattle.vk_joins.specs.Links.{body_calls}
use Rattle.vk_compose.proofs.Chains.{Every}
use Rattle.vk_settings.proofs.Heads.{IsDefinedIn, defined_in_unit}
use Rattle.vk_sites.specs.Calls.{CallText}
use Rattle.vk_linked_calls.proofs.Visited.{in_stmt}

abbrev pub IsLined : CallText → Type 0
IsLined c = is_plain_function (meaning_of c.scope c.callee) ≡ false

and_second : (a b : Bool) → a ≡ true → (a && b) ≡ false → b ≡ false
and_second true b h k = k
and_second false b h k = cc

call_plain : (texts : List (List ℕ)) (a : Around) (l k : ℕ) (id : NameId) (m : Option Meaning) (ts : List Typing) → call_faults texts a l k id m ts ≡ [] → is_simd a ≡ true → is_plain_function m ≡ false
unfolding call_faults
call_plain texts a l k id m ts e s =
    let u : List Fault = when (is_undeclared m) (fault_at l k C8) in
    let w : List Fault = when (is_wrong_call m ts) (fault_at l k C9) in
    let n : List Fault = when (is_long texts id) (fault_at l k C16) in
    let p : List Fault = when (is_simd a && is_plain_function m) (fault_with l k D15 a.directive) in
    and_second (is_simd a) (is_plain_function m) s
    (when_not (is_simd a && is_plain_function m) (fault_with l k D15 a.directive) (quiet_right n p (quiet_right w (n ++ p) (quiet_right u (w ++ (n ++ p)) e))))

module _ (v : Subject) (accepted : IsAccepted v) (text : List ℕ) (d : Definition) (defined : definition_in text v ≡ Some d) where
  pub f : IsDefinedIn text v d
  f = defined_in_unit text v d defined

  abbrev pub a : Around
  a = around_body (f.before ++ function d.function ∷ []) d.function

  body : AllByRecursion (IsQuiet v) (stmt_visits a (first_point d).scope true d.body)
  body =
      subst (λ (u : Subject). AllByRecursion (IsQuiet v) (stmt_visits a (with_params (file_scope u.texts d.items) d.function.params) true d.body)) (sym f.unit_is)
      (subst (λ (xs : List ItemTree). AllByRecursion (IsQuiet v) (stmt_visits a (with_params (file_scope v.texts xs) d.function.params) true d.body)) (sym f.items_are)
      (body_quiet v accepted.sound f.before d.function f.behind f.split d.body f.body_is))

  at_call : (c : Around) → is_simd c ≡ true → (scope : Scope) (b : Bool) (l k : ℕ) (id : NameId) (es : Trees) → IsQuiet v (called c scope l k id es) → IsLined (record { scope = scope; always = b; callee = id; arguments = es })
  unfolding called_faults
  at_call c s scope b l k id es q = call_plain v.texts c l k id (meaning_of scope id) (typings_of scope es) q s

  -- THE CALLS of a function with directives are of no function without
  pub calls_lined : is_simd a ≡ true → Every IsLined (body_calls d)
  calls_lined s = in_stmt (IsQuiet v) IsLined at_call a s (first_point d) true d.body body

-- ---- the directives of its first declaration

numbered : (ds : List DirectiveTree) → ((x : DirectiveTree) → Contains ds x → x.number ≢ 0) → has_directives ds ≡ true → not (first_number ds == 0) ≡ true
numbered [] h there = cc
numbered (x ∷ ds) h there = not_zero x.number (h x (zero, omega arith, refl))
  where
    not_zero : (n : ℕ) → n ≢ 0 → not (n == 0) ≡ true
    not_zero n h = grind (arith, nat_tests)

every_in : (xs : List CallText) (x : CallText) → Every IsLined xs → Contains xs x → IsLined x
every_in [] x h (k, lt, at) = absurd (omega (arith, lt))
every_in (y ∷ xs) x h (zero, lt, at) = subst IsLined at h.0
every_in (y ∷ xs) x h (suc k, lt, at) = every_in xs x h.1 (k, omega (arith, lt), at)

pub call_lined : (v : Subject) → IsAccepted v → (text : List ℕ) (d : Definition) → definition_in text v ≡ Some d → (g : FunctionTree) → first_declaration d.items d.function.name ≡ Some (function g) →
    has_directives g.directives ≡ true → (c : CallText) → Contains (body_calls d) c → IsLined c
unfolding f
call_lined v accepted text d defined g first lines c among = every_in (body_calls d) c (calls_lined v accepted text d defined around) among
  where
    q : IsDefinedIn text v d
    q = defined_in_unit text v d defined

    declared : Contains v.items (function g)
    declared = subst (λ (xs : List ItemTree). Contains xs (function g)) (sym q.prefix) (Contains-append_left d.items q.behind (function g) (first_in d.items d.function.name (function g) first))

    first_here : first_declaration (q.before ++ function d.function ∷ []) d.function.name ≡ Some (function g)
    first_here = subst (λ (xs : List ItemTree). first_declaration xs d.function.name ≡ Some (function g)) q.items_are first

    around : is_simd (around_body (q.before ++ function d.function ∷ []) d.function) ≡ true
    around = subst (λ (o : Option ItemTree). not (number_of_item o == 0) ≡ true) (sym first_here) (numbered g.directives (λ x h. accepted.grammatical.numbers g declared x h) lines)
