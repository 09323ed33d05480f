use Rattle.std.proofs.Common.{◌≡◌, map, take}
use Rattle.vk_ast.specs.Tree.{expr_of}
use Rattle.vk_ast.specs.Units.{object_of}
use Rattle.vk_rules_book.specs.Noting.{found}
use Rattle.vk_rules_book.specs.Visits.{initial_visits}
use Rattle.vk_rules_names.specs.Seen.{scope_of, unit_in}
use Rattle.vk_rules_items.proofs.objects.judge_initials.Given as goal

abbrev pub invariant-loop-number : goal.invariant-loop-number
invariant-loop-number l = l.note.first ≡ found (unit_in l.scope) l.fn.note.first (initial_visits (scope_of l.scope) (object_of l.o) 0 (map expr_of (take l.number l.es)))
