use Rattle.std.proofs.Common.{◌≡◌, take}
use Rattle.vk_ast.specs.Statements.{list_stmts}
use Rattle.vk_rules_book.specs.Visits.{after_all, all_visits}
use Rattle.vk_rules_book.specs.Noting.{found}
use Rattle.vk_rules_names.specs.Seen.{scope_at, unit_of}
use Rattle.vk_rules_stmt.proofs.statements.+stating.Given as goal

abbrev pub invariant-judge_all-loop-s : goal.invariant-judge_all-loop-s
invariant-judge_all-loop-s l = record {
  scope : scope_at l.place l.inner.items l.outer ≡ after_all (scope_at l.place l.fn.inner.items l.outer) (list_stmts (take l.s-index l.ss));
  noted : l.note.first ≡ found (unit_of l.place) l.fn.note.first
      (all_visits l.around (scope_at l.place l.fn.inner.items l.outer) (list_stmts (take l.s-index l.ss)));
}
