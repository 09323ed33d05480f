use Rattle.vk_reading_steps.proofs.Steps.{does_read}
use Rattle.vk_reading_steps.proofs.names.value_of_name.Goals as goal

pub returns-clause-does : goal.returns-clause-does
returns-clause-does c arrays call out = does_read c.args.cells.now.rows.items out _ c.name_held.result _ c.settled.ensures (λ events. c.name_held.ensures.value arrays call events)
