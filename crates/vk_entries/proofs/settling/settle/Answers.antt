use Rattle.std.proofs.Common.{rules}
use Rattle.vk_entries.proofs.Untouched.{left_alone}
use Rattle.vk_types.specs.declared.types.Stop.TheVariants.{Turns}
use Rattle.vk_object.specs.Lane.{with_stop}
use Rattle.vk_frames.specs.Frames.{lanes_of}
use Rattle.vk_steps.proofs.Fitting.{fits_put}
use Rattle.vk_entries.proofs.settling.settle.Goals as goal

pub returns-in-Some-clause-fits : goal.returns-in-Some-clause-fits
returns-in-Some-clause-fits c =
    fits_put c.args.place.now c.args.frame.now c.set_stop.new.self 0 (with_stop (lanes_of c.args.frame.now 0) c.in-Some.stop) c.requires.fits c.set_stop.ensures.fits (c.requires.fits.words 0) c.set_stop.ensures.lanes

pub returns-then-asked-from-clause-fits : goal.returns-then-asked-from-clause-fits
returns-then-asked-from-clause-fits c =
    fits_put c.args.place.now c.args.frame.now c.set_stop-then-asked-from.new.self 0 (with_stop (lanes_of c.args.frame.now 0) Turns) c.requires.fits c.set_stop-then-asked-from.ensures.fits (c.requires.fits.words 0) c.set_stop-then-asked-from.ensures.lanes

pub returns-else-asked-from-clause-lanes : goal.returns-else-asked-from-clause-lanes
returns-else-asked-from-clause-lanes c = left_alone (lanes_of c.args.frame.now) c.args.asked c.args.place.now.turns c.args.stop (search rules) (search rules)
