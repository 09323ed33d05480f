use Rattle.std.proofs.Common.{◌∙◌}
use Rattle.vk_lanes.specs.Masks.{is_on}
use Rattle.vk_object.specs.Lane.{with_reg}
use Rattle.vk_steps.proofs.Live.{live_each}
use Rattle.vk_steps.proofs.registers.set.Goals as goal

pub returns-clause-lanes : goal.returns-clause-lanes
returns-clause-lanes c = c.fill_row.ensures.lanes ∙ live_each c.args.frame.now c.args.m (is_on c.live_lanes-live.result) (λ j l. with_reg l c.args.d c.args.word.0) c.live_lanes-live.ensures.lanes
