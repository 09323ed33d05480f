use Rattle.vk_reading_steps.proofs.Steps.{goes_ok, goes_err}
use Rattle.vk_reading_steps.proofs.Adds.{adds_answered}
use Rattle.vk_reading_steps.proofs.operands.unary_of.Goals as goal

pub returns-in-Ok-clause-goes : goal.returns-in-Ok-clause-goes
returns-in-Ok-clause-goes c arrays now = goes_ok now _ c.in-Ok.x _ c.unary_held.result _ c.in-Ok.is c.settled.ensures c.unary_held.ensures.value

pub returns-in-Err-clause-goes : goal.returns-in-Err-clause-goes
returns-in-Err-clause-goes c arrays now = goes_err now _ c.in-Err.halt _ c.in-Err.is (λ d. adds_answered _)
