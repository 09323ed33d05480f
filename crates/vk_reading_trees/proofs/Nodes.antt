-- What the code does of each form of expression, from what it does of the parts.
use Rattle.std.proofs.Common.{◌≡◌, ℕ, Bool, true, false, cond, List, [], Result, Ok, Err, refl, sym, ap, subst, ◌∙◌, true≢false}
use Rattle.std.specs.Result.{IsErrAnd}
use Rattle.vk_types.specs.declared.types.Ty.{Ty}
use Rattle.vk_types.specs.Numbers.{wrap_number}
use Rattle.vk_types.specs.Conversions.{common_type}
use Rattle.vk_ast.specs.declared.expressions.UnOp.{UnOp}
use Rattle.std.specs.Global.{Vec}
use Rattle.vk_ast.specs.declared.names.NameId.{NameId}
use Rattle.vk_ast.specs.declared.expressions.Expr.{Expr}
use Rattle.vk_ast.specs.declared.expressions.ExprKind.{ExprKind}
use Rattle.vk_ast.specs.declared.expressions.ExprKind.TheVariants.{Call}
use Rattle.vk_ast.specs.Tree.{Tree, kind_of, expr_of, exprs_of}
use Rattle.vk_ast.proofs.Rows.{call_seen}
use Rattle.vk_rules_book.specs.Scopes.{Scope, meaning_of}
use Rattle.vk_rules_book.specs.declared.typings.Typing.{Typing}
use Rattle.vk_rules_book.specs.Typings.{wanted_types, typing_of}
use Rattle.vk_numbers.specs.Operators.{is_on, unary_number}
use Rattle.vk_meaning.specs.World.{Array}
use Rattle.vk_meaning.specs.Data.{Datum, number, number_in, Action, given, and_then, then_number, moved, loaded}
use Rattle.vk_meaning.specs.Expressions.{Context, Variables, answered, subscripted, chosen, converted, value_of, address_of, with_arguments}
use Rattle.vk_reading.specs.declared.held.Held.{Held}
use Rattle.vk_reading.specs.declared.held.Halt.{Halt}
use Rattle.vk_reading.specs.Held.{datum_of}
use Rattle.vk_reading_steps.specs.Runs.{Run, Does, Adds, GoesOn, DoesArguments}
use Rattle.vk_reading_steps.specs.Settings.{data_of}
use Rattle.vk_reading_steps.proofs.Steps.{does_then, does_fail}
use Rattle.vk_reading_steps.proofs.Adds.{adds_given, adds_number, adds_cond, adds_moved, adds_loaded}

first_of : (t : Bool) (x y : Action) → t ≡ true → x ≡ cond t x y
first_of true x y e = refl
first_of false x y e = absurd (true≢false (sym e))

second_of : (t : Bool) (x y : Action) → t ≡ false → y ≡ cond t x y
second_of false x y e = refl
second_of true x y e = absurd (true≢false e)

module _ {arrays : List Array} {b : Run} where
  pub unary_does : {m : Run} {first : Action} {s s' : Ty} {x r : Result Held Halt} (op : UnOp) → s ≡ s' → GoesOn arrays m x (λ d. answered (unary_number op s (number_in d))) r →
      Does arrays b first m x → Does arrays b (then_number first (λ z. answered (unary_number op s' z))) m r
  unary_does {m = m} {first = first} {r = r} op e g d = subst (λ (t : Ty). Does arrays b (then_number first (λ z. answered (unary_number op t z))) m r) e (g.goes b first d)

  -- ---- elements

  pub load_does : {m : Run} {first : Action} {s s' : Ty} {x r : Result Held Halt} → s ≡ s' → GoesOn arrays m x (loaded arrays s) r → Does arrays b first m x →
      Does arrays b (and_then first (loaded arrays s')) m r
  load_does {m = m} {first = first} {r = r} e g d = subst (λ (t : Ty). Does arrays b (and_then first (loaded arrays t)) m r) e (g.goes b first d)

  pub load_failed : {m : Run} {first : Action} (s : Ty) {x : Halt} → Does arrays b first m (Err x) → Does arrays b (and_then first (loaded arrays s)) m (Err x)
  load_failed s d = does_fail (loaded arrays s) (λ d. adds_loaded arrays s d) d

  pub element_does : {m n : Run} {base subscript : Action} {p : Held} {k r : Result Held Halt} → Does arrays b base m (Ok p) → Does arrays m subscript n k →
      GoesOn arrays n k (λ d. moved (datum_of p) (number_in d)) r → Does arrays b (subscripted base subscript) n r
  element_does {m = m} {subscript = subscript} d e g = does_then (λ q. then_number subscript (moved q)) d (g.goes m subscript e)

  pub element_failed : {m : Run} {base subscript : Action} {x : Halt} → Adds subscript → Does arrays b base m (Err x) → Does arrays b (subscripted base subscript) m (Err x)
  element_failed {subscript = subscript} a d = does_fail (λ q. then_number subscript (moved q)) (λ q. adds_number a (λ z. adds_moved q z)) d

  -- ---- choices

  as_type : {n : Run} (test first second : Action) {s s' : Ty} → s ≡ s' → {x r : Result Held Halt} → GoesOn arrays n x (λ d. given (number (wrap_number s (number_in d)))) r →
      Does arrays b (chosen test first second) n x → Does arrays b (converted s' (chosen test first second)) n r
  as_type {n = n} test first second e {r = r} g d = subst (λ (t : Ty). Does arrays b (converted t (chosen test first second)) n r) e (g.goes b (chosen test first second) d)

  pub first_does : {m n : Run} {test first : Action} (second : Action) {s s' : Ty} → s ≡ s' → {h : Held} {x r : Result Held Halt} → is_on (number_in (datum_of h)) ≡ true →
      Does arrays b test m (Ok h) → Does arrays m first n x → GoesOn arrays n x (λ d. given (number (wrap_number s (number_in d)))) r →
      Does arrays b (converted s' (chosen test first second)) n r
  first_does {m = m} {n = n} {test = test} {first = first} second e {h = h} {x = x} on d f g = as_type test first second e g (does_then (λ k. cond (is_on (number_in k)) first second) d
      (subst (λ (a : Action). Does arrays m a n x) (first_of (is_on (number_in (datum_of h))) first second on) f))

  pub second_does : {m n : Run} {test : Action} (first : Action) {second : Action} {s s' : Ty} → s ≡ s' → {h : Held} {x r : Result Held Halt} →
      is_on (number_in (datum_of h)) ≡ false → Does arrays b test m (Ok h) → Does arrays m second n x →
      GoesOn arrays n x (λ d. given (number (wrap_number s (number_in d)))) r → Does arrays b (converted s' (chosen test first second)) n r
  second_does {m = m} {n = n} {test = test} first {second = second} e {h = h} {x = x} off d f g = as_type test first second e g (does_then (λ k. cond (is_on (number_in k)) first second) d
      (subst (λ (a : Action). Does arrays m a n x) (second_of (is_on (number_in (datum_of h))) first second off) f))

  pub choice_failed : {m : Run} {test first second : Action} (s : Ty) {x : Halt} → Adds first → Adds second → Does arrays b test m (Err x) →
      Does arrays b (converted s (chosen test first second)) m (Err x)
  choice_failed {first = first} {second = second} s a c d = does_fail (λ k. given (number (wrap_number s (number_in k)))) (λ k. adds_given _)
      (does_fail (λ k. cond (is_on (number_in k)) first second) (λ k. adds_cond (is_on (number_in k)) a c) d)

-- ---- exits

failed_is : {A : Type 0} (r : Result A Halt) (x : Halt) → IsErrAnd r (λ e. e ≡ x) → Err x ≡ r
failed_is (Ok h) x e = absurd e
failed_is (Err y) x e = ap Err (sym e)

module _ {arrays : List Array} {b n : Run} {x : Halt} where
  pub exit_does : {action : Action} (r : Result Held Halt) → IsErrAnd r (λ e. e ≡ x) → Does arrays b action n (Err x) → Does arrays b action n r
  exit_does {action = action} r e d = subst (λ (q : Result Held Halt). Does arrays b action n q) (failed_is r x e) d

  pub exit_passed : {action : (List Datum → Action) → Action} {given : List Datum} (r : Result (Unit {0}) Halt) → IsErrAnd r (λ e. e ≡ x) →
      DoesArguments arrays b action n given (Err x) → DoesArguments arrays b action n given r
  exit_passed {action = action} {given = given} r e d = subst (λ (q : Result (Unit {0}) Halt). DoesArguments arrays b action n given q) (failed_is r x e) d

-- ---- the expression at a node

pub typed : {t : Typing} (scope : Scope) {e f : Expr} → e ≡ f → t ≡ typing_of scope (expr_of e) → t ≡ typing_of scope (expr_of f)
typed scope s h = h ∙ ap (λ (g : Expr). typing_of scope (expr_of g)) s

pub common_is : {r s t s' t' : Ty} → s ≡ s' → t ≡ t' → r ≡ common_type s t → r ≡ common_type s' t'
common_is {t = t} {s' = s'} e f h = h ∙ ap (λ (x : Ty). common_type x t) e ∙ ap (common_type s') f

module _ {arrays : List Array} {b n : Run} (c : Context) (scope : Scope) (vs : Variables) where
  pub value_seen : {e f : Expr} → e ≡ f → {r : Result Held Halt} → Does arrays b (value_of c scope vs (expr_of e)) n r → Does arrays b (value_of c scope vs (expr_of f)) n r
  value_seen s {r = r} d = subst (λ (g : Expr). Does arrays b (value_of c scope vs (expr_of g)) n r) s d

module _ {arrays : List Array} {b n : Run} (c : Context) (scope : Scope) (vs : Variables) (e : Expr) (k : ExprKind) (is : e.kind ≡ k) where
  pub value_at : {r : Result Held Halt} → Does arrays b (value_of c scope vs (kind_of k e.line e.token)) n r → Does arrays b (value_of c scope vs (expr_of e)) n r
  value_at {r = r} d = subst (λ (j : ExprKind). Does arrays b (value_of c scope vs (kind_of j e.line e.token)) n r) (sym is) d

  pub address_at : {r : Result Held Halt} → Does arrays b (address_of c scope vs (kind_of k e.line e.token)) n r → Does arrays b (address_of c scope vs (expr_of e)) n r
  address_at {r = r} d = subst (λ (j : ExprKind). Does arrays b (address_of c scope vs (kind_of j e.line e.token)) n r) (sym is) d

-- ---- calls

module _ {arrays : List Array} {b n : Run} (c : Context) (scope : Scope) (vs : Variables) (id : NameId) (line token : ℕ) (es : Vec Expr) where
  -- the arguments of a call, by the list of expressions
  pub call_at : {r : Result Held Halt} → Does arrays b (with_arguments c scope vs (wanted_types (meaning_of scope id)) (exprs_of es.items) [] (c.call id)) n r →
      Does arrays b (value_of c scope vs (kind_of (Call id es) line token)) n r
  call_at {r = r} d = subst (λ (t : Tree). Does arrays b (value_of c scope vs t) n r) (sym (call_seen id line token es)) d

-- a call on the data of some values
pub given_seen : {arrays : List Array} {b n : Run} (action : List Datum → Action) {hs gs : List Held} → hs ≡ gs → {r : Result Held Halt} →
    Does arrays b (action (data_of hs)) n r → Does arrays b (action (data_of gs)) n r
given_seen {arrays = arrays} {b = b} {n = n} action e {r = r} d = subst (λ (xs : List Held). Does arrays b (action (data_of xs)) n r) e d
