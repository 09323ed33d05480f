use Rattle.std.proofs.Common.{subst}
use Rattle.vk_meaning.specs.Data.{Action}
use Rattle.vk_reading_steps.specs.Runs.{Does, run_of}
use Rattle.vk_reading_calls.proofs.Names.{print_any}
use Rattle.vk_reading_calls.proofs.prints.print_first.Goals as goal

pub returns-in-len1-up-clause-does : goal.returns-in-len1-up-clause-does
returns-in-len1-up-clause-does g c arrays rows =
    subst (λ (a : Action). Does arrays (run_of rows (g.O.Sink.state c.args.out.now)) a (run_of rows (g.O.Sink.state c.print_held.new.out)) c.print_held.result)
    (print_any c.args.arguments.now _ c.in-len1-up.len_at_least) (c.print_held.ensures.does arrays rows)
