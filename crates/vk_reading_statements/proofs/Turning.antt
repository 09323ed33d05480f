-- Turns of a loop. Its parts are run at points that are the same as the loop's own, since no turn changes what is visible.
use Rattle.std.proofs.Common.{◌≡◌, ℕ, suc, ◌-◌, Bool, true, false, List, Option, Result, Ok, Err, sym, ap}
use Rattle.vk_types.specs.declared.types.Stop.TheVariants.{Turns}
use Rattle.vk_ast.specs.declared.names.NameId.{NameId}
use Rattle.vk_ast.specs.Tree.{Tree}
use Rattle.vk_ast.specs.Statements.{StmtTree, for_loop}
use Rattle.vk_meaning.specs.World.{Array}
use Rattle.vk_meaning.specs.Data.{Datum}
use Rattle.vk_meaning.specs.Points.{Point, branch_point}
use Rattle.vk_meaning.specs.Expressions.{Context}
use Rattle.vk_meaning.specs.Statements.{Effect, turns, condition_of, run}
use Rattle.vk_reading.specs.declared.held.Held.{Held}
use Rattle.vk_reading.specs.declared.held.Halt.{Halt}
use Rattle.vk_reading.specs.declared.held.Halt.TheVariants.{Halted}
use Rattle.vk_reading_steps.specs.Runs.{Run, Adds}
use Rattle.vk_reading_statements.specs.declared.flow.Flow.{Flow}
use Rattle.vk_reading_statements.specs.declared.flow.Flow.TheVariants.{Fell}
use Rattle.vk_reading_statements.specs.Flows.{leaves_loop, left_by}
use Rattle.vk_reading_statements.specs.Acts.{Acts, Leads, Decides}
use Rattle.vk_reading_statements.specs.Loops.{test_in, turn_of}
use Rattle.vk_reading_statements.proofs.AddsAll.{adds_condition, adds_turn}
use Rattle.vk_reading_statements.proofs.Constructs.{same_effect, same_flow, turn_halted, turn_left, test_halted, test_off, test_on, turns_over, body_halted, third_left, third_run}
use Rattle.vk_reading_statements.proofs.Exits.{same_test}
use Rattle.vk_reading_statements.proofs.Sequence.{same_rest}

-- at most so many turns of the loop at the point
abbrev pub turns_at : Context → Point → StmtTree → ℕ → Effect
turns_at c p s n = turns n (condition_of c p.scope (test_in s)) (turn_of c p s)

module _ (c : Context) (calls : (id : NameId) (ds : List Datum) → Adds (c.call id ds)) {arrays : List Array} where
  one_more : {b m : Run} {vs us : List Held} {whole : Effect} (p : Point) (s : StmtTree) (left : ℕ) → left ≡ suc (left - 1) → Leads arrays b vs whole m us (turns_at c p s left) → Leads arrays b vs whole m us (turns_at c p s (suc (left - 1)))
  one_more p s left some so_far = same_rest (ap (turns_at c p s) some) so_far

  module _ {b m k : Run} {vs us ws : List Held} {whole : Effect} (p q : Point) (same : q ≡ p) (s : StmtTree) (left : ℕ) (some : left ≡ suc (left - 1)) (so_far : Leads arrays b vs whole m us (turns_at c p s left)) where
    at_loop : {r : Result Flow Halt} → Acts arrays m us (turn_of c q s) k ws r → Acts arrays m us (turn_of c p s) k ws r
    at_loop a = same_effect (ap (λ (t : Point). turn_of c t s) same) a

    pub next_turn_halted : {x : Halt} → Acts arrays m us (turn_of c q s) k ws (Err x) → Acts arrays b vs whole k ws (Err x)
    next_turn_halted a = turn_halted c calls (left - 1) (condition_of c p.scope (test_in s)) (turn_of c p s) (adds_condition c calls p.scope (test_in s)) (adds_turn c calls p s) (one_more p s left some so_far) (at_loop a)

    pub next_turn_left : (flow end : Flow) → end ≡ left_by flow → Acts arrays m us (turn_of c q s) k ws (Ok flow) → leaves_loop flow ≡ true → Acts arrays b vs whole k ws (Ok end)
    next_turn_left flow end is a leaves = same_flow (sym is)
        (turn_left c calls (left - 1) (condition_of c p.scope (test_in s)) (turn_of c p s) (adds_condition c calls p.scope (test_in s)) (adds_turn c calls p s) (one_more p s left some so_far) flow (at_loop a) leaves)

    module _ {j : Run} (flow : Flow) (a : Acts arrays m us (turn_of c q s) k ws (Ok flow)) (stays : leaves_loop flow ≡ false) (t : Point) (there : t ≡ p) where
      tested : {r : Result Bool Halt} → Decides arrays k ws (condition_of c t.scope (test_in s)) j r → Decides arrays k ws (condition_of c p.scope (test_in s)) j r
      tested d = same_test (ap (λ (u : Point). condition_of c u.scope (test_in s)) there) d

      pub next_test_halted : {x : Halt} → Decides arrays k ws (condition_of c t.scope (test_in s)) j (Err x) → Acts arrays b vs whole j ws (Err x)
      next_test_halted d = test_halted c calls (left - 1) (condition_of c p.scope (test_in s)) (turn_of c p s) (adds_condition c calls p.scope (test_in s)) (adds_turn c calls p s) (one_more p s left some so_far) flow (at_loop a) stays (tested d)

      pub next_test_off : (on : Bool) → Decides arrays k ws (condition_of c t.scope (test_in s)) j (Ok on) → on ≡ false → Acts arrays b vs whole j ws (Ok Fell)
      next_test_off on d off = test_off c calls (left - 1) (condition_of c p.scope (test_in s)) (turn_of c p s) (adds_condition c calls p.scope (test_in s)) (adds_turn c calls p s) (one_more p s left some so_far) flow (at_loop a) stays on (tested d) off

      pub next_test_on : (on : Bool) → Decides arrays k ws (condition_of c t.scope (test_in s)) j (Ok on) → on ≡ true → Leads arrays b vs whole j ws (turns_at c p s (left - 1))
      next_test_on on d is_on = test_on c calls (left - 1) (condition_of c p.scope (test_in s)) (turn_of c p s) (adds_condition c calls p.scope (test_in s)) (adds_turn c calls p s) (one_more p s left some so_far) flow (at_loop a) stays on (tested d) is_on

  pub no_turn_left : {b m : Run} {vs us last : List Held} {whole : Effect} (p : Point) (s : StmtTree) (left : ℕ) → left ≡ 0 → Leads arrays b vs whole m us (turns_at c p s left) → Acts arrays b vs whole m last (Err (Halted Turns))
  no_turn_left {last = last} p s left none so_far = turns_over c calls last (condition_of c p.scope (test_in s)) (turn_of c p s) (same_rest (ap (turns_at c p s) none) so_far)

  -- ---- a turn of a `for`: its body and its third part, as the code has them

  module _ {b m : Run} {vs us : List Held} (p : Point) (s : StmtTree) (l k : ℕ) (first third body : StmtTree) (test : Option Tree) (is : s ≡ for_loop l k first test third body) (x : StmtTree) (seen : x ≡ body) where
    of_body : {r : Result Flow Halt} → Acts arrays b vs (run c (branch_point p) x) m us r → Acts arrays b vs (run c (branch_point p) body) m us r
    of_body a = same_effect (ap (run c (branch_point p)) seen) a

    pub for_body_halted : {h : Halt} → Acts arrays b vs (run c (branch_point p) x) m us (Err h) → Acts arrays b vs (turn_of c p s) m us (Err h)
    for_body_halted a = same_effect (ap (turn_of c p) (sym is)) (body_halted c calls p third body (of_body a))

    module _ (flow : Flow) (a : Acts arrays b vs (run c (branch_point p) x) m us (Ok flow)) where
      pub for_body_left : leaves_loop flow ≡ true → Acts arrays b vs (turn_of c p s) m us (Ok flow)
      for_body_left leaves = same_effect (ap (turn_of c p) (sym is)) (third_left c calls p third body flow (of_body a) leaves)

      pub for_third_run : {n : Run} {last : List Held} {r : Result Flow Halt} → leaves_loop flow ≡ false → (q : Point) → q ≡ p → (y : StmtTree) → y ≡ third → Acts arrays m us (run c q y) n last r → Acts arrays b vs (turn_of c p s) n last r
      for_third_run stays q same y seen d = same_effect (ap (turn_of c p) (sym is)) (third_run c calls p third body flow (of_body a) stays (same_effect (λ i. run c (same i) (seen i)) d))
