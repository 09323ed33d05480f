use Rattle.std.proofs.Common.{◌≡◌, [], map, take}
use Rattle.std.specs.List.{list_any}
use Rattle.vk_ast.specs.Directives.{ClauseTree, clause_of, directive_of}
use Rattle.vk_ast.specs.Units.{function_of}
use Rattle.vk_rules_book.specs.Noting.{found}
use Rattle.vk_rules_book.specs.Visits.{clause_visits}
use Rattle.vk_rules_book.specs.Directives.{all_said_faults, is_branch, is_empty, is_simdlen}
use Rattle.vk_rules_names.specs.Seen.{unit_of}
use Rattle.vk_rules_directives.proofs.clauses.judge_clauses.Given as goal

abbrev pub invariant-loop-c : goal.invariant-loop-c
invariant-loop-c l = record {
  noted : l.note.first ≡ found (unit_of l.at.place.now) l.fn.note.first (clause_visits (function_of l.at.f.now) (directive_of l.at.d.now) [] (map clause_of (take l.c-index l.clauses)));
  sound : l.sound ≡ is_empty (all_said_faults (function_of l.at.f.now) (directive_of l.at.d.now) [] (map clause_of (take l.c-index l.clauses)));
  simdlen : l.has_simdlen ≡ list_any (λ (e : ClauseTree). is_simdlen e.says) (map clause_of (take l.c-index l.clauses));
  branch : l.has_branch ≡ list_any (λ (e : ClauseTree). is_branch e.says) (map clause_of (take l.c-index l.clauses));
}
