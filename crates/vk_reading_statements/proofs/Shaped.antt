-- Branches, loops and blocks as the code's enum has them.
use Rattle.std.proofs.Common.{◌≡◌, ℕ, ◌+◌, Bool, true, false, List, Option, Some, Result, Ok, Err, sym, ap, ◌∙◌}
use Rattle.vk_ast.specs.declared.names.NameId.{NameId}
use Rattle.vk_ast.specs.declared.statements.Stmt.{Stmt}
use Rattle.vk_ast.specs.declared.statements.StmtKind.{Held-StmtKind-If-2, None', Some'}
use Rattle.vk_ast.specs.Tree.{Tree}
use Rattle.vk_ast.specs.Statements.{StmtTree, block, for_loop, stmt_kind_of, with_else, list_stmts}
use Rattle.vk_rules_book.specs.Scopes.{Scope, inside}
use Rattle.vk_rules_book.specs.Visits.{after, after_all, block_scope}
use Rattle.vk_meaning.specs.World.{Array}
use Rattle.vk_meaning.specs.Data.{Datum}
use Rattle.vk_meaning.specs.Points.{Point, branch_point, head_point, loops_in}
use Rattle.vk_meaning.specs.Expressions.{Context}
use Rattle.vk_meaning.specs.Statements.{told_by, condition_of, run, run_simd, run_all}
use Rattle.vk_reading.specs.declared.held.Held.{Held}
use Rattle.vk_reading.specs.declared.held.Halt.{Halt}
use Rattle.vk_reading_steps.specs.Runs.{Run, Adds}
use Rattle.vk_reading_statements.specs.declared.flow.Flow.{Flow}
use Rattle.vk_reading_statements.specs.declared.flow.Flow.TheVariants.{Fell}
use Rattle.vk_reading_statements.specs.Flows.{behind_it}
use Rattle.vk_reading_statements.specs.Acts.{Acts, Decides}
use Rattle.vk_reading_statements.proofs.Constructs.{same_effect, only_taken, else_taken, only_halted, else_halted, rounds_of, for_run, first_halted, simd_run, simd_first_halted, simd_bound_halted}

-- the point behind the first part of a loop that stands at this one
abbrev pub point_behind : Point → Scope → StmtTree → Point
point_behind p scope first = record { scope = scope; shares = false; loops = p.loops + loops_in first }

-- what is visible behind a block that shares the scope around it
pub behind_block : (shares : Bool) (s t : Scope) (tree : StmtTree) (l k : ℕ) (xs ys : List Stmt) → tree ≡ block l k (list_stmts xs) → ys ≡ xs → shares ≡ true
    → t ≡ after_all s (list_stmts ys) → t ≡ after shares s tree
behind_block shares s t tree l k xs ys is same shared went = went ∙ ap (λ zs. after_all s (list_stmts zs)) same ∙ sym (λ i. after (shared i) s (is i))

module _ (c : Context) (calls : (id : NameId) (ds : List Datum) → Adds (c.call id ds)) {arrays : List Array} where
  -- ---- branches

  module _ {b m : Run} {vs : List Held} (p : Point) (l k : ℕ) (test : Tree) (first : StmtTree) where
    pub if_halted : {x : Halt} (second : Held-StmtKind-If-2) → Decides arrays b vs (condition_of c p.scope (Some test)) m (Err x) → Acts arrays b vs (run c p (with_else l k test first second)) m vs (Err x)
    if_halted None' d = only_halted c calls p l k test first first d
    if_halted (Some' q l1 k1 second) d = else_halted c calls p l k test first (stmt_kind_of second l1 k1) d

    pub if_taken : {n : Run} {last : List Held} {r : Result Flow Halt} (second : Held-StmtKind-If-2) (on : Bool) → Decides arrays b vs (condition_of c p.scope (Some test)) m (Ok on) → on ≡ true
        → Acts arrays m vs (run c (branch_point p) first) n last r → Acts arrays b vs (run c p (with_else l k test first second)) n last r
    if_taken None' on d is a = only_taken c calls p l k test first first on d is a
    if_taken (Some' q l1 k1 second) on d is a = else_taken c calls p l k test first (stmt_kind_of second l1 k1) on d is a

  -- ---- blocks

  module _ {b n : Run} {vs last : List Held} {r : Result Flow Halt} (p : Point) (s : StmtTree) (l k : ℕ) (xs ys : List Stmt) (is : s ≡ block l k (list_stmts xs)) (same : ys ≡ xs) where
    block_run : (on : Bool) → p.shares ≡ on → Acts arrays b vs (run_all c (record { scope = block_scope on p.scope; shares = false; loops = p.loops }) (list_stmts ys)) n last r → Acts arrays b vs (run c p s) n last r
    block_run on which a = same_effect ((λ i. run_all c (record { scope = block_scope (sym which i) p.scope; shares = false; loops = p.loops }) (list_stmts (same i))) ∙ ap (run c p) (sym is)) a

    pub block_shared : p.shares ≡ true → Acts arrays b vs (run_all c (record { scope = p.scope; shares = false; loops = p.loops }) (list_stmts ys)) n last r → Acts arrays b vs (run c p s) n last r
    block_shared which a = block_run true which a

    pub block_apart : p.shares ≡ false → Acts arrays b vs (run_all c (branch_point p) (list_stmts ys)) n last r → Acts arrays b vs (run c p s) n last r
    block_apart which a = block_run false which a

  -- ---- loops: the point at which the first part was run, and that part, as the code has them

  module _ {b m : Run} {vs us : List Held} (p : Point) (s : StmtTree) (l k : ℕ) (first third body : StmtTree) (test : Option Tree) (is : s ≡ for_loop l k first test third body)
      (q : Point) (head : q ≡ head_point p) (x : StmtTree) (seen : x ≡ first) where
    pub for_halted : {h : Halt} → Acts arrays b vs (run c q x) m us (Err h) → Acts arrays b vs (run c p s) m us (Err h)
    for_halted a = same_effect (ap (run c p) (sym is)) (first_halted c calls p l k first third body test (same_effect (λ i. run c (head i) (seen i)) a))

    pub simd_halted : {h : Halt} → Acts arrays b vs (run c q x) m us (Err h) → Acts arrays b vs (run_simd c p s) m us (Err h)
    simd_halted a = same_effect (ap (run_simd c p) (sym is)) (simd_first_halted c calls p l k first third body test (same_effect (λ i. run c (head i) (seen i)) a))

    module _ (flow : Flow) (scope : Scope) (went : flow ≡ Fell → scope ≡ after true q.scope x) (a : Acts arrays b vs (run c q x) m us (Ok flow)) where
      ran : Acts arrays b vs (run c (head_point p) first) m us (Ok flow)
      ran = same_effect (λ i. run c (head i) (seen i)) a

      goes : flow ≡ Fell → scope ≡ after true (inside p.scope) first
      goes e = went e ∙ (λ i. after true ((head i).scope) (seen i))

      pub for_done : {n : Run} {last : List Held} {r : Result Flow Halt} → Acts arrays m us (behind_it flow (rounds_of c calls (point_behind p scope first) s)) n last r → Acts arrays b vs (run c p s) n last r
      for_done d = same_effect (ap (run c p) (sym is)) (for_run c calls p l k first third body test scope flow goes ran
          (same_effect (ap (λ t. behind_it flow (rounds_of c calls (point_behind p scope first) t)) is) d))

      pub bound_halted : {k1 : Run} {ws : List Held} {h : Halt} (y : StmtTree) → y ≡ first → Acts arrays m us (behind_it flow (told_by c p (point_behind p scope first) y test body)) k1 ws (Err h)
          → Acts arrays b vs (run_simd c p s) k1 ws (Err h)
      bound_halted y same d = same_effect (ap (run_simd c p) (sym is)) (simd_bound_halted c calls p l k first third body test scope flow goes ran
          (same_effect (ap (λ t. behind_it flow (told_by c p (point_behind p scope first) t test body)) same) d))

      pub simd_done : {k1 n : Run} {ws last : List Held} {r : Result Flow Halt} (y : StmtTree) → y ≡ first → (end : Flow) → (end ≡ Fell → flow ≡ Fell)
          → Acts arrays m us (behind_it flow (told_by c p (point_behind p scope first) y test body)) k1 ws (Ok end)
          → Acts arrays k1 ws (behind_it end (rounds_of c calls (point_behind p scope first) s)) n last r → Acts arrays b vs (run_simd c p s) n last r
      simd_done y same end ends d e = same_effect (ap (run_simd c p) (sym is)) (simd_run c calls p l k first third body test scope flow end goes ends ran
          (same_effect (ap (λ t. behind_it flow (told_by c p (point_behind p scope first) t test body)) same) d)
          (same_effect (ap (λ t. behind_it end (rounds_of c calls (point_behind p scope first) t)) is) e))
