use Rattle.vk_lanes.proofs.Bits.{chosen_bits}
use Rattle.vk_lanes.proofs.masks.chosen.Goals as goal

pub returns : goal.returns
returns c = chosen_bits c.args.on c.args.new c.args.old c.ranges.on.fits
