-- Statements one after another, as the code's list has them.
use Rattle.std.proofs.Common.{◌≡◌, ℕ, suc, ◌+◌, ◌<◌, ◌≤◌, true, false, List, [], ◌∷◌, ◌++◌, length, take, drop, get_or, add-one, Ok, Err, refl, sym, ap, subst, ◌∙◌}
use Rattle.std.proofs.Math.Seq.{drop-cons}
use Rattle.std.proofs.lemmas.List.{append_assoc, drop_all, take_more, take-append-drop}
use Rattle.std.proofs.lemmas.Bool.{false≢true}
use Rattle.vk_ast.specs.declared.names.NameId.{NameId}
use Rattle.vk_ast.specs.declared.statements.Stmt.{Stmt}
use Rattle.vk_ast.specs.Statements.{StmtTrees, more_stmts, stmt_of, list_stmts}
use Rattle.vk_rules_book.specs.Scopes.{Scope}
use Rattle.vk_rules_book.specs.Visits.{after, after_all}
use Rattle.vk_meaning.specs.World.{Array}
use Rattle.vk_meaning.specs.Data.{Datum}
use Rattle.vk_meaning.specs.Points.{Point, loops_in}
use Rattle.vk_meaning.specs.Expressions.{Context}
use Rattle.vk_meaning.specs.Statements.{Effect, run, run_all}
use Rattle.vk_reading.specs.declared.held.Held.{Held}
use Rattle.vk_reading.specs.declared.held.Halt.{Halt}
use Rattle.vk_reading_steps.specs.Runs.{Run, Adds}
use Rattle.vk_reading_statements.specs.declared.flow.Flow.{Flow}
use Rattle.vk_reading_statements.specs.declared.flow.Flow.TheVariants.{Fell, Broke, Continued, Returned}
use Rattle.vk_reading_statements.specs.Flows.{is_jump}
use Rattle.vk_reading_statements.specs.Acts.{Acts, Leads}
use Rattle.vk_reading_statements.proofs.Constructs.{all_halted, all_jumped, all_fell, all_over}

pub fell_if : (flow : Flow) → is_jump flow ≡ false → flow ≡ Fell
fell_if Fell e = refl
fell_if Broke e = absurd (false≢true (sym e))
fell_if Continued e = absurd (false≢true (sym e))
fell_if (Returned h) e = absurd (false≢true (sym e))

abbrev pub inner_point : Scope → ℕ → Point
inner_point scope loops = record { scope = scope; shares = false; loops = loops }

next_of : (ss : List Stmt) (i : ℕ) (x : Stmt) → i < length ss → x ≡ get_or ss i x → list_stmts (drop i ss) ≡ more_stmts (stmt_of x) (list_stmts (drop (i + 1) ss))
next_of ss i x below is = ap list_stmts (drop-cons ss i x below ∙ ap (λ (y : Stmt). y ∷ drop (suc i) ss) (sym is) ∙ ap (λ n. x ∷ drop n ss) (sym (add-one i)))

module _ {arrays : List Array} (c : Context) (calls : (id : NameId) (ds : List Datum) → Adds (c.call id ds)) {b m : Run} {vs us : List Held} {whole : Effect} (scope : Scope) (loops : ℕ) (ss : List Stmt) (i : ℕ) (x : Stmt)
    (below : i < length ss) (is : x ≡ get_or ss i x) (so_far : Leads arrays b vs whole m us (run_all c (inner_point scope loops) (list_stmts (drop i ss)))) where
  taken : Leads arrays b vs whole m us (run_all c (inner_point scope loops) (more_stmts (stmt_of x) (list_stmts (drop (i + 1) ss))))
  taken = subst (λ (ts : StmtTrees). Leads arrays b vs whole m us (run_all c (inner_point scope loops) ts)) (next_of ss i x below is) so_far

  pub next_halted : {k : Run} {ws : List Held} {h : Halt} → Acts arrays m us (run c (inner_point scope loops) (stmt_of x)) k ws (Err h) → Acts arrays b vs whole k ws (Err h)
  next_halted a = all_halted c calls (inner_point scope loops) (stmt_of x) (list_stmts (drop (i + 1) ss)) taken a

  pub next_jumped : {k : Run} {ws : List Held} (flow : Flow) → Acts arrays m us (run c (inner_point scope loops) (stmt_of x)) k ws (Ok flow) → is_jump flow ≡ true → Acts arrays b vs whole k ws (Ok flow)
  next_jumped flow a jumped = all_jumped c calls (inner_point scope loops) (stmt_of x) (list_stmts (drop (i + 1) ss)) taken flow a jumped

  pub next_fell : {k : Run} {ws : List Held} (flow : Flow) (next : Scope) → Acts arrays m us (run c (inner_point scope loops) (stmt_of x)) k ws (Ok flow) → is_jump flow ≡ false → (flow ≡ Fell → next ≡ after false scope (stmt_of x))
      → Leads arrays b vs whole k ws (run_all c (inner_point next (loops + loops_in (stmt_of x))) (list_stmts (drop (i + 1) ss)))
  next_fell {k = k} {ws = ws} flow next a fell_on went = subst (λ (t : Scope). Leads arrays b vs whole k ws (run_all c (inner_point t (loops + loops_in (stmt_of x))) (list_stmts (drop (i + 1) ss)))) (sym (went (fell_if flow fell_on)))
      (all_fell c calls (inner_point scope loops) (stmt_of x) (list_stmts (drop (i + 1) ss)) taken flow a fell_on)

pub all_done : {arrays : List Array} (c : Context) (calls : (id : NameId) (ds : List Datum) → Adds (c.call id ds)) {b m : Run} {vs us : List Held} {whole : Effect} (scope : Scope) (loops : ℕ) (ss : List Stmt) (i : ℕ) → length ss ≤ i
    → Leads arrays b vs whole m us (run_all c (inner_point scope loops) (list_stmts (drop i ss))) → Acts arrays b vs whole m us (Ok Fell)
all_done {arrays = arrays} c calls {b = b} {m = m} {vs = vs} {us = us} {whole = whole} scope loops ss i past h =
    all_over c calls (inner_point scope loops) (subst (λ (ts : StmtTrees). Leads arrays b vs whole m us (run_all c (inner_point scope loops) ts)) (ap list_stmts (drop_all i ss past)) h)

-- ---- what is visible

pub kept : {X : Type 0} (xs ys : List X) → take (length xs) (xs ++ ys) ≡ xs
kept [] ys = refl
kept (x ∷ xs) ys = ap (λ zs. x ∷ zs) (kept xs ys)

pub whole_list : {X : Type 0} (xs : List X) → take (length xs) xs ≡ xs
whole_list [] = refl
whole_list (x ∷ xs) = ap (λ zs. x ∷ zs) (whole_list xs)

-- ---- what is declared behind one statement more

after_push : (s : Scope) (ss : List Stmt) (x : Stmt) → after_all s (list_stmts (ss ++ x ∷ [])) ≡ after false (after_all s (list_stmts ss)) (stmt_of x)
after_push s [] x = refl
after_push s (y ∷ ss) x = after_push (after false s (stmt_of y)) ss x

pub next_scope : (s now next : Scope) (ss : List Stmt) (i : ℕ) (x : Stmt) → i < length ss → x ≡ get_or ss i x → now ≡ after_all s (list_stmts (take i ss))
    → next ≡ after false now (stmt_of x) → next ≡ after_all s (list_stmts (take (i + 1) ss))
next_scope s now next ss i x below is before went =
    went ∙ ap (λ u. after false u (stmt_of x)) before
    ∙ sym (ap (λ xs. after_all s (list_stmts xs)) (take_more ss i x below ∙ ap (λ y. take i ss ++ y ∷ []) (sym is)) ∙ after_push s (take i ss) x)

-- the first of a list whose first are the first of another
pub kept_further : {X : Type 0} (first mid last : List X) → take (length first) mid ≡ first → take (length mid) last ≡ mid → take (length first) last ≡ first
kept_further first mid last h k =
    let m : mid ≡ first ++ drop (length first) mid = sym (take-append-drop (length first) mid) ∙ ap (λ xs. xs ++ drop (length first) mid) h in
    let l : last ≡ mid ++ drop (length mid) last = sym (take-append-drop (length mid) last) ∙ ap (λ xs. xs ++ drop (length mid) last) k in
    ap (take (length first)) (l ∙ ap (λ xs. xs ++ drop (length mid) last) m ∙ append_assoc first _ _) ∙ kept first _

pub same_rest : {arrays : List Array} {b m : Run} {vs us : List Held} {whole one other : Effect} → one ≡ other → Leads arrays b vs whole m us one → Leads arrays b vs whole m us other
same_rest {arrays = arrays} {b = b} {m = m} {vs = vs} {us = us} {whole = whole} e h = subst (λ (x : Effect). Leads arrays b vs whole m us x) e h
