-- What a statement leaves visible begins with what was visible before it.
use Rattle.std.proofs.Common.{◌≡◌, ℕ, ◌+◌, ◌<◌, Bool, true, false, List, [], ◌∷◌, ◌++◌, length, take, get_or, refl, sym, ap, ◌∙◌}
use Rattle.std.proofs.lemmas.List.{append_assoc, append-nil, take_more}
use Rattle.vk_ast.specs.declared.statements.Stmt.{Stmt}
use Rattle.vk_ast.specs.Statements.{StmtTree, StmtTrees, empty, block, local, assign, value, if_only, if_else, while_loop, do_loop, for_loop, break_loop, continue_loop, return_value, simd, lost, no_stmts, more_stmts, stmt_of, list_stmts}
use Rattle.vk_rules_book.specs.declared.contexts.Binding.{Binding}
use Rattle.vk_rules_book.specs.declared.contexts.Around.{Around}
use Rattle.vk_rules_book.specs.Scopes.{Scope}
use Rattle.vk_rules_book.specs.Visits.{after, after_all, all_visits, stmt_visits}

abbrev Goes : Scope → Scope → Type 0
Goes s t = (ys : List Binding) × (t.inner ≡ s.inner ++ ys)

same : (s : Scope) → Goes s s
same s = ([], sym (append-nil s.inner))

mutual
  goes : (shares : Bool) (s : Scope) (t : StmtTree) → Goes s (after shares s t)
  goes shares s (local l k t fixed id init) = (_ ∷ [], refl)
  goes true s (block l k ss) = goes_all s ss
  goes false s (block l k ss) = same s
  goes shares s (empty l k) = same s
  goes shares s (assign l k op p e) = same s
  goes shares s (value l k e) = same s
  goes shares s (if_only l k c a) = same s
  goes shares s (if_else l k c a b) = same s
  goes shares s (while_loop l k c b) = same s
  goes shares s (do_loop l k b c) = same s
  goes shares s (for_loop l k a c b d) = same s
  goes shares s (break_loop l k) = same s
  goes shares s (continue_loop l k) = same s
  goes shares s (return_value l k e) = same s
  goes shares s (simd l k d b) = same s
  goes shares s (lost l k d) = same s

  goes_all : (s : Scope) (ss : StmtTrees) → Goes s (after_all s ss)
  goes_all s no_stmts = same s
  goes_all s (more_stmts t ts) =
      let a = goes false s t in
      let b = goes_all (after false s t) ts in
      (a.0 ++ b.0, b.1 ∙ ap (λ xs. xs ++ b.0) a.1 ∙ append_assoc s.inner a.0 b.0)

pub taken : (xs ys : List Binding) → take (length xs) (xs ++ ys) ≡ xs
taken [] ys = refl
taken (x ∷ xs) ys = ap (λ zs. x ∷ zs) (taken xs ys)

-- what was visible before a statement is what is left when the list is cut back
pub cut_back : (shares : Bool) (s t : Scope) (tree : StmtTree) (bs : List Binding) → t ≡ after shares s tree → bs ≡ take (length s.inner) t.inner → bs ≡ s.inner
cut_back shares s t tree bs is cut =
    let g = goes shares s tree in cut ∙ ap (λ (u : Scope). take (length s.inner) u.inner) is ∙ ap (take (length s.inner)) g.1 ∙ taken s.inner g.0

pub cut_back_all : (s t : Scope) (trees : StmtTrees) (bs : List Binding) → t ≡ after_all s trees → bs ≡ take (length s.inner) t.inner → bs ≡ s.inner
cut_back_all s t trees bs is cut =
    let g = goes_all s trees in cut ∙ ap (λ (u : Scope). take (length s.inner) u.inner) is ∙ ap (take (length s.inner)) g.1 ∙ taken s.inner g.0

-- ---- one statement more

grown : (ss : List Stmt) (i : ℕ) (x : Stmt) → i < length ss → x ≡ get_or ss i x → take (i + 1) ss ≡ take i ss ++ x ∷ []
grown ss i x below is = take_more ss i x below ∙ ap (λ y. take i ss ++ y ∷ []) (sym is)

after_push : (s : Scope) (ss : List Stmt) (x : Stmt) → after_all s (list_stmts (ss ++ x ∷ [])) ≡ after false (after_all s (list_stmts ss)) (stmt_of x)
after_push s [] x = refl
after_push s (y ∷ ss) x = after_push (after false s (stmt_of y)) ss x

pub next_after : (s now next : Scope) (ss : List Stmt) (i : ℕ) (x : Stmt) → i < length ss → x ≡ get_or ss i x → now ≡ after_all s (list_stmts (take i ss))
    → next ≡ after false now (stmt_of x) → next ≡ after_all s (list_stmts (take (i + 1) ss))
next_after s now next ss i x below is before went =
    went ∙ ap (λ u. after false u (stmt_of x)) before ∙ sym (ap (λ xs. after_all s (list_stmts xs)) (grown ss i x below is) ∙ after_push s (take i ss) x)

visits_push : (a : Around) (s : Scope) (ss : List Stmt) (x : Stmt) → all_visits a s (list_stmts (ss ++ x ∷ [])) ≡ all_visits a s (list_stmts ss) ++ stmt_visits a (after_all s (list_stmts ss)) false (stmt_of x)
visits_push a s [] x = append-nil _
visits_push a s (y ∷ ss) x = ap (λ vs. stmt_visits a s false (stmt_of y) ++ vs) (visits_push a (after false s (stmt_of y)) ss x)
    ∙ sym (append_assoc (stmt_visits a s false (stmt_of y)) _ _)

pub next_visits : (a : Around) (s now : Scope) (ss : List Stmt) (i : ℕ) (x : Stmt) → i < length ss → x ≡ get_or ss i x → now ≡ after_all s (list_stmts (take i ss))
    → all_visits a s (list_stmts (take i ss)) ++ stmt_visits a now false (stmt_of x) ≡ all_visits a s (list_stmts (take (i + 1) ss))
next_visits a s now ss i x below is before =
    ap (λ u. all_visits a s (list_stmts (take i ss)) ++ stmt_visits a u false (stmt_of x)) before
    ∙ sym (ap (λ xs. all_visits a s (list_stmts xs)) (grown ss i x below is) ∙ visits_push a s (take i ss) x)
