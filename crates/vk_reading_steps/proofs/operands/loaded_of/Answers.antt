use Rattle.vk_reading_steps.proofs.Steps.{goes_reading, goes_err}
use Rattle.vk_reading_steps.proofs.Adds.{adds_loaded}
use Rattle.vk_reading_steps.specs.Runs.{run_of}
use Rattle.vk_reading_steps.proofs.operands.loaded_of.Goals as goal

pub returns-in-Ok-clause-goes : goal.returns-in-Ok-clause-goes
returns-in-Ok-clause-goes c arrays out = goes_reading c.args.cells.now.rows.items out _ c.in-Ok.p _ c.loaded_held.result _ c.in-Ok.is c.settled.ensures (λ events. c.loaded_held.ensures.value arrays events)

pub returns-in-Err-clause-goes : goal.returns-in-Err-clause-goes
returns-in-Err-clause-goes c arrays out = goes_err (run_of c.args.cells.now.rows.items out) _ c.in-Err.halt _ c.in-Err.is (λ d. adds_loaded arrays c.args.to d)
