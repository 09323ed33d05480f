-- Arguments, one after another.
use Rattle.std.proofs.Common.{◌≡◌, ℕ, zero, suc, ◌+◌, List, [], ◌∷◌, ◌++◌, ◌<◌, ◌≤◌, drop, get_or, length, slice_get, Option, Some, None, Result, Ok, Err, refl, sym, ap, subst, ◌∙◌, add-one}
use Rattle.std.proofs.lemmas.List.{drop_all, drop_more}
use Rattle.std.proofs.lemmas.Option.{none-some, same_Some}
use Rattle.vk_kinds.specs.declared.heads.CType.{CType}
use Rattle.vk_kinds.specs.declared.heads.CType.TheVariants.{Void}
use Rattle.vk_ast.specs.declared.names.NameId.{NameId}
use Rattle.vk_ast.specs.declared.expressions.Expr.{Expr}
use Rattle.vk_ast.specs.Tree.{Tree, Trees, no_trees, more_trees, expr_of, exprs_of}
use Rattle.vk_rules_book.specs.Scopes.{Scope, Meaning}
use Rattle.vk_rules_book.specs.Typings.{wanted_types}
use Rattle.vk_meaning.specs.World.{Array}
use Rattle.vk_meaning.specs.Types.{next_type, next_types}
use Rattle.vk_meaning.specs.Data.{Datum, as_type, Action, and_then}
use Rattle.vk_meaning.specs.Expressions.{Context, Variables, value_of, with_arguments}
use Rattle.vk_meaning.specs.declared.reading.RunFail.TheVariants.{Memory}
use Rattle.vk_reading.specs.declared.held.Held.{Held}
use Rattle.vk_reading.specs.declared.held.Halt.{Halt}
use Rattle.vk_reading.specs.declared.held.Halt.TheVariants.{Failed}
use Rattle.vk_reading.specs.Cells.{HaveWords}
use Rattle.vk_reading.specs.Held.{datum_of, IsHeld}
use Rattle.vk_reading_steps.specs.Runs.{Run, Does, Adds, IsPassed, DoesArguments}
use Rattle.vk_reading_steps.specs.Settings.{AreHeld, data_of}
use Rattle.vk_reading_steps.proofs.Steps.{does_then, does_fail, does_want}
use Rattle.vk_reading_steps.proofs.Adds.{adds_arguments}

-- ---- the types that arguments are for

pub wanted_there : (ts : List CType) (n : ℕ) (t : CType) → slice_get ts n ≡ Some t → t ≡ next_type (drop n ts)
wanted_there [] n t e = absurd (none-some t e)
wanted_there (s ∷ ts) zero t e = sym (same_Some s t e)
wanted_there (s ∷ ts) (suc n) t e = wanted_there ts n t e

pub wanted_nowhere : (ts : List CType) (n : ℕ) → slice_get ts n ≡ None → Void ≡ next_type (drop n ts)
wanted_nowhere [] zero e = refl
wanted_nowhere [] (suc n) e = refl
wanted_nowhere (s ∷ ts) zero e = absurd (none-some s (sym e))
wanted_nowhere (s ∷ ts) (suc n) e = wanted_nowhere ts n e

behind_first : (ts : List CType) (n : ℕ) → next_types (drop n ts) ≡ drop (suc n) ts
behind_first [] zero = refl
behind_first [] (suc n) = refl
behind_first (t ∷ ts) zero = refl
behind_first (t ∷ ts) (suc n) = behind_first ts n

pub behind_next : (ts : List CType) (n : ℕ) → drop (n + 1) ts ≡ next_types (drop n ts)
behind_next ts n = ap (λ k. drop k ts) (add-one n) ∙ sym (behind_first ts n)

-- ---- values, one more

pub held_more : (hs : List Held) (h : Held) → AreHeld hs → IsHeld h → AreHeld (hs ++ h ∷ [])
held_more [] h a i zero x e = subst IsHeld (same_Some h x e) i
held_more [] h a i (suc k) x e = absurd (none-some x e)
held_more (g ∷ hs) h a i zero x e = a zero x e
held_more (g ∷ hs) h a i (suc k) x e = held_more hs h (λ j y f. a (suc j) y f) i k x e

-- ---- what the code does of arguments

module _ {arrays : List Array} {b : Run} where
  passed_behind : {m : Run} (n : Run) {first : Action} {h : Held} (after : Action) (f : Datum → Action) (r : Result (Unit {0}) Halt) → Does arrays b first m (Ok h) →
      IsPassed arrays m (f (datum_of h)) n after r → IsPassed arrays b (and_then first f) n after r
  passed_behind n after f (Ok done) d p = λ end q e. does_then f d (p end q e)
  passed_behind n after f (Err x) d p = does_then f d p

pub none_behind : {arrays : List Array} {b n : Run} (c : Context) (scope : Scope) (vs : Variables) {given : List Datum} {r : Result (Unit {0}) Halt} {hs : List Held} {es fs : List Expr}
    {w m : Option Meaning} → hs ≡ [] → es ≡ fs → w ≡ m →
    DoesArguments arrays b (with_arguments c scope vs (drop (length hs) (wanted_types w)) (exprs_of es) (data_of hs)) n given r →
    DoesArguments arrays b (with_arguments c scope vs (wanted_types m) (exprs_of fs) []) n given r
none_behind {arrays = arrays} {b = b} {n = n} c scope vs {given = given} {r = r} {es = es} {fs = fs} {w = w} {m = m} none same is d =
    subst (λ (x : Option Meaning). DoesArguments arrays b (with_arguments c scope vs (wanted_types x) (exprs_of fs) []) n given r) is
    (subst (λ (xs : List Expr). DoesArguments arrays b (with_arguments c scope vs (wanted_types w) (exprs_of xs) []) n given r) same
    (subst (λ (xs : List Held). DoesArguments arrays b (with_arguments c scope vs (drop (length xs) (wanted_types w)) (exprs_of es) (data_of xs)) n given r) none d))

module _ (c : Context) (scope : Scope) (vs : Variables) where
  pub none_passed : {arrays : List Array} {b : Run} (ts : List CType) (before : List Datum) → DoesArguments arrays b (with_arguments c scope vs ts no_trees before) b before (Ok tt)
  none_passed ts before = record { passes = λ next a. λ end r d. d }

  module _ (ts : List CType) (e : Tree) (es : Trees) (before : List Datum) where
    abbrev with_rest : (List Datum → Action) → Datum → Action
    with_rest next d = with_arguments c scope vs (next_types ts) es (before ++ as_type (next_type ts) d ∷ []) next

    pub first_passed : {arrays : List Array} {b m n : Run} {h : Held} {us : List CType} {done : List Datum} (given : List Datum) (r : Result (Unit {0}) Halt) →
        done ≡ before ++ as_type (next_type ts) (datum_of h) ∷ [] → us ≡ next_types ts → Does arrays b (value_of c scope vs e) m (Ok h) →
        DoesArguments arrays m (with_arguments c scope vs us es done) n given r → DoesArguments arrays b (with_arguments c scope vs ts (more_trees e es) before) n given r
    first_passed {arrays = arrays} {m = m} {n = n} {h = h} {us = us} given r p q d k = record {
      passes = λ next a. passed_behind n (next given) (with_rest next) r d
          (subst (λ (x : List CType). IsPassed arrays m (with_arguments c scope vs x es (before ++ as_type (next_type ts) (datum_of h) ∷ []) next) n (next given) r) q
          (subst (λ (x : List Datum). IsPassed arrays m (with_arguments c scope vs us es x next) n (next given) r) p (k.passes next a)));
    }

    module _ (calls : (id : NameId) (ds : List Datum) → Adds (c.call id ds)) where
      adds_rest : (next : List Datum → Action) → ((ds : List Datum) → Adds (next ds)) → (d : Datum) → Adds (with_rest next d)
      adds_rest next a d = adds_arguments c calls scope vs (next_types ts) es (before ++ as_type (next_type ts) d ∷ []) next a

      pub first_halted : {arrays : List Array} {b m : Run} {x : Halt} (given : List Datum) → Does arrays b (value_of c scope vs e) m (Err x) →
          DoesArguments arrays b (with_arguments c scope vs ts (more_trees e es) before) m given (Err x)
      first_halted given d = record { passes = λ next a. does_fail (with_rest next) (adds_rest next a) d }

      pub first_wanted : {arrays : List Array} {b m : Run} {h : Held} (given : List Datum) → Does arrays b (value_of c scope vs e) m (Ok h) →
          DoesArguments arrays b (with_arguments c scope vs ts (more_trees e es) before) m given (Err (Failed Memory))
      first_wanted {m = m} {h = h} given d = record { passes = λ next a. does_then (with_rest next) d (does_want m (with_rest next (datum_of h)) (adds_rest next a (datum_of h))) }

-- ---- a loop along the arguments

first_at : (es : List Expr) (i : ℕ) (e : Expr) → i < length es → e ≡ get_or es i e → drop i es ≡ e ∷ drop (i + 1) es
first_at es i e below is = drop_more es i e below ∙ ap (λ (x : Expr). x ∷ drop (i + 1) es) (sym is)

-- So many arguments were evaluated: what is done of the others then is done of all.
pub record Passing (arrays : List Array) (c : Context) (scope : Scope) (vs : Variables) (wanted : List CType) (es : List Expr) (start : Run) (before : List Held)
    (now : Run) (values : List Held) (count : ℕ) : Type 0 where
  pub words : HaveWords now.rows
  pub held : AreHeld values
  pub goes : (end : Run) (given : List Datum) (r : Result (Unit {0}) Halt) →
      DoesArguments arrays now (with_arguments c scope vs (drop (length values) wanted) (exprs_of (drop count es)) (data_of values)) end given r →
      DoesArguments arrays start (with_arguments c scope vs (drop (length before) wanted) (exprs_of es) (data_of before)) end given r

module _ {arrays : List Array} (c : Context) (scope : Scope) (vs : Variables) (wanted : List CType) (es : List Expr) where
  pub passing_start : (start : Run) (before : List Held) → HaveWords start.rows → AreHeld before → Passing arrays c scope vs wanted es start before start before 0
  passing_start start before w h = record { words = w; held = h; goes = λ end given r d. d }

  module _ {start : Run} {before : List Held} {now : Run} {values : List Held} {i : ℕ} (p : Passing arrays c scope vs wanted es start before now values i) where
    pub passing_end : length es ≤ i → DoesArguments arrays start (with_arguments c scope vs (drop (length before) wanted) (exprs_of es) (data_of before)) now (data_of values) (Ok tt)
    passing_end all = p.goes now (data_of values) (Ok tt)
        (subst (λ (xs : List Expr). DoesArguments arrays now (with_arguments c scope vs (drop (length values) wanted) (exprs_of xs) (data_of values)) now (data_of values) (Ok tt))
        (sym (drop_all i es all)) (none_passed c scope vs (drop (length values) wanted) (data_of values)))

    module _ {e : Expr} (below : i < length es) (is : e ≡ get_or es i e) where
      with_first : (end : Run) (given : List Datum) (r : Result (Unit {0}) Halt) →
          DoesArguments arrays now (with_arguments c scope vs (drop (length values) wanted) (more_trees (expr_of e) (exprs_of (drop (i + 1) es))) (data_of values)) end given r →
          DoesArguments arrays start (with_arguments c scope vs (drop (length before) wanted) (exprs_of es) (data_of before)) end given r
      with_first end given r d = p.goes end given r
          (subst (λ (xs : List Expr). DoesArguments arrays now (with_arguments c scope vs (drop (length values) wanted) (exprs_of xs) (data_of values)) end given r) (sym (first_at es i e below is)) d)

      pub passing_step : {m : Run} {h : Held} {more : List Held} → Does arrays now (value_of c scope vs (expr_of e)) m (Ok h) → HaveWords m.rows → AreHeld more →
          length more ≡ length values + 1 → data_of more ≡ data_of values ++ as_type (next_type (drop (length values) wanted)) (datum_of h) ∷ [] →
          Passing arrays c scope vs wanted es start before m more (i + 1)
      passing_step d w a n f = record {
        words = w;
        held = a;
        goes = λ end given r k. with_first end given r
            (first_passed c scope vs (drop (length values) wanted) (expr_of e) (exprs_of (drop (i + 1) es)) (data_of values) given r f
            (ap (λ (j : ℕ). drop j wanted) n ∙ behind_next wanted (length values)) d k);
      }

      module _ (calls : (id : NameId) (ds : List Datum) → Adds (c.call id ds)) where
        pub passing_halted : {m : Run} {x : Halt} (given : List Datum) → Does arrays now (value_of c scope vs (expr_of e)) m (Err x) →
            DoesArguments arrays start (with_arguments c scope vs (drop (length before) wanted) (exprs_of es) (data_of before)) m given (Err x)
        passing_halted {m = m} {x = x} given d = with_first m given (Err x)
            (first_halted c scope vs (drop (length values) wanted) (expr_of e) (exprs_of (drop (i + 1) es)) (data_of values) calls given d)

        pub passing_wanted : {m : Run} {h : Held} {x : Halt} (given : List Datum) → x ≡ Failed Memory → Does arrays now (value_of c scope vs (expr_of e)) m (Ok h) →
            DoesArguments arrays start (with_arguments c scope vs (drop (length before) wanted) (exprs_of es) (data_of before)) m given (Err x)
        passing_wanted {m = m} {x = x} given want d = with_first m given (Err x)
            (subst (λ (y : Halt). DoesArguments arrays now (with_arguments c scope vs (drop (length values) wanted) (more_trees (expr_of e) (exprs_of (drop (i + 1) es))) (data_of values)) m given (Err y)) (sym want)
            (first_wanted c scope vs (drop (length values) wanted) (expr_of e) (exprs_of (drop (i + 1) es)) (data_of values) calls given d))
