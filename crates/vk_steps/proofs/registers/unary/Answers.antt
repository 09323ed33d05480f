use Rattle.std.proofs.Common.{◌∙◌}
use Rattle.vk_lanes.specs.Kernels.{op1_word}
use Rattle.vk_lanes.specs.Masks.{is_on}
use Rattle.vk_object.specs.Lane.{with_reg}
use Rattle.vk_steps.proofs.Live.{live_each}
use Rattle.vk_steps.proofs.registers.unary.Goals as goal

pub returns-clause-lanes : goal.returns-clause-lanes
returns-clause-lanes c = c.unary_row.ensures.lanes ∙ live_each c.args.frame.now c.args.m (is_on c.live_lanes-live.result) (λ j l. with_reg l c.args.d (op1_word c.args.op c.args.ty (l.reg c.args.a))) c.live_lanes-live.ensures.lanes
