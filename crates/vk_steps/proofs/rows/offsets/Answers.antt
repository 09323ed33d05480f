use Rattle.std.proofs.Common.{◌≡◌, ap, arith, subst, sym, ◌∙◌}
use Rattle.vk_code.specs.Listing.{listing_of}
use Rattle.vk_object.specs.Lane.{number_at}
use Rattle.vk_object.specs.Memory.{moved}
use Rattle.vk_frames.specs.Each.{each}
use Rattle.vk_frames.specs.Frames.{lanes_of}
use Rattle.vk_frames.proofs.Fitting.{fits_then}
use Rattle.vk_frames.proofs.Writes.{each_none, each_step}
use Rattle.vk_runs.specs.Words.{HasWords}
use Rattle.vk_steps.specs.Locals.{live_as, with_pointer}
use Rattle.vk_steps.proofs.Live.{not_yet}
use Rattle.vk_steps.proofs.rows.offsets.Goals as goal

pub loop-lane-init : goal.loop-lane-init
loop-lane-init c = record { fits = c.requires.fits; lanes = sym (each_none (λ j l. live_as c.args.m l (with_pointer l c.args.d (moved (l.reg c.args.a) (number_at (listing_of c.args.code.now).routine.regs l c.args.b)))) (lanes_of c.args.frame.now)) }

pub offset-requires-clause-words : goal.offset-requires-clause-words
offset-requires-clause-words c =
    subst (HasWords (listing_of c.args.code.now).routine.regs) (sym (ap (λ f. f c.loop-lane.lane) c.loop-lane.invariant.lanes ∙ not_yet c.loop-lane.lane (λ j l. live_as c.args.m l (with_pointer l c.args.d (moved (l.reg c.args.a) (number_at (listing_of c.args.code.now).routine.regs l c.args.b)))) (lanes_of c.args.frame.now))) (c.requires.words c.loop-lane.lane)

pub loop-lane-preserved : goal.loop-lane-preserved
loop-lane-preserved c = record {
  fits = fits_then c.args.frame.now c.loop-lane.frame c.offset.new.frame c.loop-lane.invariant.fits c.offset.ensures.fits;
  lanes = each_step c.loop-lane.lane (λ j l. live_as c.args.m l (with_pointer l c.args.d (moved (l.reg c.args.a) (number_at (listing_of c.args.code.now).routine.regs l c.args.b)))) (lanes_of c.args.frame.now) (lanes_of c.loop-lane.frame) (lanes_of c.offset.new.frame) c.loop-lane.invariant.lanes c.offset.ensures.lanes;
}

pub returns-clause-lanes : goal.returns-clause-lanes
returns-clause-lanes c =
    let end : c.loop-lane.lane ≡ c.args.frame.now.lanes = omega arith in
    c.loop-lane.invariant.lanes ∙ ap (λ n. each n (λ j l. live_as c.args.m l (with_pointer l c.args.d (moved (l.reg c.args.a) (number_at (listing_of c.args.code.now).routine.regs l c.args.b)))) (lanes_of c.args.frame.now)) end
