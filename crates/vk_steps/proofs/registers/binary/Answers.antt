use Rattle.std.proofs.Common.{cond, ap₂, ◌∙◌}
use Rattle.vk_types.specs.declared.types.Stop.TheVariants.{Divide}
use Rattle.vk_lanes.specs.Masks.{is_on}
use Rattle.vk_object.specs.Lane.{with_stop}
use Rattle.vk_frames.specs.Each.{each}
use Rattle.vk_steps.proofs.Live.{stopped_each}
use Rattle.vk_steps.proofs.registers.binary.Goals as goal

pub returns-clause-lanes : goal.returns-clause-lanes
returns-clause-lanes c =
    c.stop_divided.ensures.lanes
    ∙ (ap₂ (λ n f. each n (λ j l. cond (is_on c.binary_row.new.zero j) (with_stop l Divide) l) f) c.binary_row.ensures.fits.lanes_are c.binary_row.ensures.lanes
    ∙ stopped_each c.args.frame.now c.args.m c.args.d c.args.a c.args.b c.args.op c.args.ty c.args.right (is_on c.live_lanes-live.result) (is_on c.binary_row.new.zero) c.live_lanes-live.ensures.lanes c.binary_row.ensures.zero)
