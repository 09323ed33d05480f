use Rattle.std.proofs.Common.{◌==◌, not, ◌&&◌, ap, ◌∙◌}
use Rattle.vk_lanes.specs.Masks.{is_on}
use Rattle.vk_object.specs.Lane.{is_live}
use Rattle.vk_frames.specs.Frames.{lanes_of}
use Rattle.vk_steps.proofs.Live.{masks_each}
use Rattle.vk_steps.proofs.registers.mask_of.Goals as goal

pub returns-clause-lanes : goal.returns-clause-lanes
returns-clause-lanes c = c.set_mask.ensures.lanes
    ∙ masks_each c.args.frame.now.lanes c.args.d (lanes_of c.args.frame.now) (is_on c.nonzero_lanes-on.result) (λ l. is_live c.args.m l && not (l.reg c.args.a == 0))
    (λ j. c.nonzero_lanes-on.ensures.lanes j ∙ ap (λ b. b && not ((lanes_of c.args.frame.now j).reg c.args.a == 0)) (c.live_lanes-live.ensures.lanes j))
