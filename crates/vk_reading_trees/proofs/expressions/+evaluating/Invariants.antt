use Rattle.vk_rules_book.specs.Typings.{wanted_types}
use Rattle.vk_rules_names.specs.Seen.{meaning_seen, scope_of}
use Rattle.vk_reading_steps.specs.Runs.{run_of}
use Rattle.vk_reading_steps.specs.Settings.{context_in, variables_in}
use Rattle.vk_reading_trees.proofs.Passing.{Passing}
use Rattle.vk_reading_trees.proofs.expressions.+evaluating.Given as goal

abbrev pub invariant-evaluate_arguments-loop-e : goal.invariant-evaluate_arguments-loop-e
invariant-evaluate_arguments-loop-e g l =
    Passing (g.C.Calls.arrays l.calls) (context_in (g.C.Calls.arrays l.calls) (g.C.Calls.call l.calls) l.place.setting) (scope_of l.place.scopes) (variables_in l.place.values.now)
    (wanted_types (meaning_seen l.known)) l.arguments (run_of l.fn.cells.rows.items (g.O.Sink.state l.fn.out)) l.fn.values.items
    (run_of l.cells.rows.items (g.O.Sink.state l.out)) l.values.items l.e-index
