use Rattle.std.proofs.Common.{Ok, ap}
use Rattle.vk_meaning.specs.Data.{got}
use Rattle.vk_reading_steps.proofs.Steps.{goes_ok, goes_err}
use Rattle.vk_reading_steps.proofs.Adds.{adds_given}
use Rattle.vk_reading_steps.proofs.operands.converted_to.Goals as goal

pub returns-in-Ok-clause-goes : goal.returns-in-Ok-clause-goes
returns-in-Ok-clause-goes c arrays now = goes_ok now _ c.in-Ok.x _ (Ok c.as_type.result) _ c.in-Ok.is c.settled.ensures (λ w. ap (λ d. got d w) c.as_type.ensures.datum)

pub returns-in-Err-clause-goes : goal.returns-in-Err-clause-goes
returns-in-Err-clause-goes c arrays now = goes_err now _ c.in-Err.halt _ c.in-Err.is (λ d. adds_given _)
