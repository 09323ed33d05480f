use Rattle.std.proofs.Common.{◌∙◌, ap₂}
use Rattle.vk_lanes.specs.Kernels.{convert_word}
use Rattle.vk_frames.specs.Each.{each}
use Rattle.vk_frames.specs.Frames.{lanes_of}
use Rattle.vk_steps.specs.Locals.{live_as}
use Rattle.vk_lanes.specs.Masks.{is_on}
use Rattle.vk_object.specs.Lane.{with_reg}
use Rattle.vk_steps.proofs.Live.{live_each}
use Rattle.vk_steps.proofs.registers.convert_in.Goals as goal

pub returns-clause-lanes : goal.returns-clause-lanes
returns-clause-lanes c = c.convert_row.ensures.lanes ∙ live_each c.args.frame.now c.args.m (is_on c.live_lanes-live.result) (λ j l. with_reg l c.args.d (convert_word c.ty_at-from.result c.ty_at-to.result (l.reg c.args.a))) c.live_lanes-live.ensures.lanes
    ∙ ap₂ (λ s t. each c.args.frame.now.lanes (λ j l. live_as c.args.m l (with_reg l c.args.d (convert_word s t (l.reg c.args.a)))) (lanes_of c.args.frame.now)) c.ty_at-from.ensures c.ty_at-to.ensures
