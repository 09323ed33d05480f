use Rattle.std.proofs.Common.{◌≡◌, ℕ, length, take, drop, false}
use Rattle.vk_ast.specs.Statements.{list_stmts, stmt_of}
use Rattle.vk_rules_book.specs.Visits.{after_all}
use Rattle.vk_meaning.specs.Statements.{condition_of, run_all, turns}
use Rattle.vk_reading.specs.Cells.{HaveWords}
use Rattle.vk_reading_steps.specs.Runs.{run_of}
use Rattle.vk_reading_steps.specs.Settings.{AreHeld}
use Rattle.vk_reading_statements.specs.Acts.{Leads}
use Rattle.vk_reading_statements.specs.Loops.{test_in, turn_of}
use Rattle.vk_reading_statements.specs.Places.{context_at, point_in, scope_in}
use Rattle.vk_reading_statements.proofs.statements.+running.Given as goal

abbrev pub invariant-run_all-loop-s : goal.invariant-run_all-loop-s
invariant-run_all-loop-s g l = record {
  words : HaveWords l.cells.rows.items;
  held : AreHeld l.locals.values.items;
  visible : take (length l.fn.locals.bindings.items) l.locals.bindings.items ≡ l.fn.locals.bindings.items;
  scope : scope_in l.body l.locals l.outer ≡ after_all (scope_in l.body l.fn.locals l.outer) (list_stmts (take l.s-index l.ss));
  leads : (loops : ℕ) → (later : ℕ) × Leads (g.C.Calls.arrays l.calls) (run_of l.fn.cells.rows.items (g.O.Sink.state l.fn.out)) l.fn.locals.values.items
      (run_all (context_at (g.C.Calls.arrays l.calls) (g.C.Calls.call l.calls) l.body) (point_in l.body l.fn.locals l.outer false loops) (list_stmts l.ss))
      (run_of l.cells.rows.items (g.O.Sink.state l.out)) l.locals.values.items
      (run_all (context_at (g.C.Calls.arrays l.calls) (g.C.Calls.call l.calls) l.body) (point_in l.body l.locals l.outer false later) (list_stmts (drop l.s-index l.ss)));
}

abbrev pub invariant-run_turns-loop-left : goal.invariant-run_turns-loop-left
invariant-run_turns-loop-left g l = record {
  words : HaveWords l.cells.rows.items;
  held : AreHeld l.locals.values.items;
  same : l.locals.bindings.items ≡ l.fn.locals.bindings.items;
  leads : (loops : ℕ) → Leads (g.C.Calls.arrays l.calls) (run_of l.fn.cells.rows.items (g.O.Sink.state l.fn.out)) l.fn.locals.values.items
      (turns l.body.setting.turns (condition_of (context_at (g.C.Calls.arrays l.calls) (g.C.Calls.call l.calls) l.body) (scope_in l.body l.fn.locals l.outer) (test_in (stmt_of l.s)))
      (turn_of (context_at (g.C.Calls.arrays l.calls) (g.C.Calls.call l.calls) l.body) (point_in l.body l.fn.locals l.outer false loops) (stmt_of l.s)))
      (run_of l.cells.rows.items (g.O.Sink.state l.out)) l.locals.values.items
      (turns l.left (condition_of (context_at (g.C.Calls.arrays l.calls) (g.C.Calls.call l.calls) l.body) (scope_in l.body l.fn.locals l.outer) (test_in (stmt_of l.s)))
      (turn_of (context_at (g.C.Calls.arrays l.calls) (g.C.Calls.call l.calls) l.body) (point_in l.body l.fn.locals l.outer false loops) (stmt_of l.s)));
}

abbrev pub decreases-run_turns-loop-left : goal.decreases-run_turns-loop-left
decreases-run_turns-loop-left g l = l.left
