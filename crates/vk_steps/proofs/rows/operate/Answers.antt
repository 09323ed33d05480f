use Rattle.std.proofs.Common.{ap, ◌∙◌}
use Rattle.vk_frames.specs.Each.{each}
use Rattle.vk_frames.specs.Frames.{lanes_of}
use Rattle.vk_steps.specs.Locals.{changed}
use Rattle.vk_steps.specs.Places.{regs}
use Rattle.vk_steps.proofs.Fitting.{fits_each}
use Rattle.vk_steps.proofs.rows.operate.Goals as goal

pub returns-clause-lanes : goal.returns-clause-lanes
returns-clause-lanes c = c.operate_all.ensures.lanes ∙ ap (λ n. each n (changed (regs c.args.place.now) c.args.instr.m c.args.operation) (lanes_of c.args.frame.now)) c.requires.fits.shape.lanes_are

pub returns-clause-fits : goal.returns-clause-fits
returns-clause-fits c = fits_each c.args.place.now c.args.frame.now c.operate_all.new.frame c.args.instr c.args.operation c.requires.fits c.operate_all.ensures.fits c.requires.good c.requires.local c.requires.sound.few (returns-clause-lanes c)
