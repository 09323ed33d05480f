use Rattle.vk_meaning.specs.Data.{number_in}
use Rattle.vk_reading.specs.Held.{datum_of}
use Rattle.vk_reading_steps.proofs.Steps.{goes_ok, goes_err}
use Rattle.vk_reading_steps.proofs.Adds.{adds_moved}
use Rattle.vk_reading_steps.proofs.operands.element_of.Goals as goal

pub returns-in-Ok-clause-goes : goal.returns-in-Ok-clause-goes
returns-in-Ok-clause-goes c arrays now = goes_ok now _ c.in-Ok.n _ c.forwards_held.result _ c.in-Ok.is c.settled.ensures c.forwards_held.ensures.value

pub returns-in-Err-clause-goes : goal.returns-in-Err-clause-goes
returns-in-Err-clause-goes c arrays now = goes_err now _ c.in-Err.halt _ c.in-Err.is (λ d. adds_moved (datum_of c.args.p) (number_in d))
