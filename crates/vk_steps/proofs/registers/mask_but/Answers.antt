use Rattle.std.proofs.Common.{not, ◌&&◌, ap₂, ◌∙◌}
use Rattle.vk_lanes.specs.Masks.{is_on}
use Rattle.vk_frames.specs.Frames.{lanes_of}
use Rattle.vk_steps.proofs.Live.{masks_each}
use Rattle.vk_steps.proofs.registers.mask_but.Goals as goal

pub returns-clause-lanes : goal.returns-clause-lanes
returns-clause-lanes c = c.set_mask.ensures.lanes
    ∙ masks_each c.args.frame.now.lanes c.args.d (lanes_of c.args.frame.now) (is_on c.mask_but.new.d) (λ l. l.on c.args.a && not (l.on c.args.b))
    (λ j. c.mask_but.ensures.lanes j ∙ ap₂ (λ x y. x && not y) (c.on_lanes-left.ensures.lanes j) (c.on_lanes-right.ensures.lanes j))
