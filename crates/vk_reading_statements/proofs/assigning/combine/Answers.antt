use Rattle.vk_reading_steps.specs.Runs.{run_of}
use Rattle.vk_reading_statements.proofs.assigning.combine.Goals as goal

pub returns-clause-does : goal.returns-clause-does
returns-clause-does g c = (c.binary_of.ensures.goes (g.C.Calls.arrays c.args.calls.now) (run_of c.evaluate-n.new.cells.rows.items (g.O.Sink.state c.evaluate-n.new.out))).goes _ _ c.evaluate-n.ensures.does
