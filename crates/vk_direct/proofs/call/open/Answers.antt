use Rattle.std.proofs.Common.{◌∙◌, ap, arith, sym}
use Rattle.vk_lanes.specs.Masks.{is_on, lane_count}
use Rattle.vk_object.specs.Machine.{first_lane}
use Rattle.vk_steps.specs.Places.{listing}
use Rattle.vk_args.proofs.Types.{fits_filled, head_of}
use Rattle.vk_direct.specs.Calls.{given_words}
use Rattle.vk_direct.proofs.call.open.Goals as goal

pub fill-requires-clause-mask : goal.fill-requires-clause-mask
fill-requires-clause-mask c = let h = head_of c.args.call.now.place c.requires.entry.place.sound in let m = h.masks in let e = c.frame_of-frame.ensures.fits.shape.masks_are in omega (arith, m, e)

pub fill-requires-clause-registers : goal.fill-requires-clause-registers
fill-requires-clause-registers c = let h = head_of c.args.call.now.place c.requires.entry.place.sound in let m = h.params in let e = c.frame_of-frame.ensures.fits.shape.registers_are in omega (arith, m, e)

pub fill-requires-clause-lanes : goal.fill-requires-clause-lanes
fill-requires-clause-lanes c = c.requires.entry.lanes ∙ sym c.frame_of-frame.ensures.fits.shape.lanes_are

pub returns-clause-fits : goal.returns-clause-fits
returns-clause-fits c =
    let call = c.args.call.now in
    fits_filled call.place c.frame_of-frame.result c.fill.new.callee (given_words (lane_count call.mask.now) call.words.now) (is_on call.mask.now) c.frame_of-frame.ensures.fits c.fill.ensures.fits c.fill.ensures.lanes c.requires.entry.typed

pub returns-clause-lanes : goal.returns-clause-lanes
returns-clause-lanes c =
    let call = c.args.call.now in
    c.fill.ensures.lanes ∙ ap (λ n. first_lane n (listing call.place).routine.params (given_words (lane_count call.mask.now) call.words.now) (is_on call.mask.now)) c.frame_of-frame.ensures.fits.shape.lanes_are
