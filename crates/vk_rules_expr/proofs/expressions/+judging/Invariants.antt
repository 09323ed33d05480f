use Rattle.std.proofs.Common.{◌≡◌, take}
use Rattle.vk_ast.specs.Tree.{exprs_of}
use Rattle.vk_rules_book.specs.Typings.{are_arguments, typings_of, wanted_types}
use Rattle.vk_rules_book.specs.Visits.{argument_visits}
use Rattle.vk_rules_book.specs.Noting.{found}
use Rattle.vk_rules_names.specs.Seen.{meaning_seen, scope_of, unit_in}
use Rattle.vk_rules_expr.proofs.expressions.+judging.Given as goal

abbrev pub invariant-judge_arguments-loop-number : goal.invariant-judge_arguments-loop-number
invariant-judge_arguments-loop-number l = record {
  fits : l.fits ≡ are_arguments (wanted_types (meaning_seen l.known)) (typings_of (scope_of l.scope) (exprs_of (take l.number l.arguments)));
  noted : l.note.first ≡ found (unit_in l.scope) l.fn.note.first
      (argument_visits l.around (scope_of l.scope) (wanted_types (meaning_seen l.known)) (exprs_of (take l.number l.arguments)));
}
