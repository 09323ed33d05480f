use Rattle.std.proofs.Common.{◌<◌, arith, ap, rules, sym, subst, ◌∙◌}
use Rattle.std.specs.Prelude.{slice_get}
use Rattle.vk_code.specs.Listing.{call_site_of}
use Rattle.vk_object.specs.Lane.{is_live, number_at}
use Rattle.vk_object.specs.Machine.{arg_reg, first_lane, kind_at, lane_args}
use Rattle.vk_frames.specs.Frames.{lanes_of}
use Rattle.vk_runs.proofs.Reached.{carried}
use Rattle.vk_steps.specs.Places.{entry, listing, regs, site}
use Rattle.vk_args.proofs.Types.{arg_there, fits_filled, head_of, passed_word, slot_pairs, steps_there}
use Rattle.vk_args.proofs.pass.pass_all.Goals as goal

pub fill-requires-clause-mask : goal.fill-requires-clause-mask
fill-requires-clause-mask c = let h = head_of c.args.found.now.place c.requires.found.sound in let m = h.masks in let e = c.requires.callee.shape.masks_are in omega (arith, m, e)

pub fill-requires-clause-registers : goal.fill-requires-clause-registers
fill-requires-clause-registers c = let h = head_of c.args.found.now.place c.requires.found.sound in let m = h.params in let e = c.requires.callee.shape.registers_are in omega (arith, m, e)

pub fill-requires-clause-good : goal.fill-requires-clause-good
fill-requires-clause-good c =
    let q = c.args.found.now.place in
    let p = c.args.place.now in
    let slot = call_site_of c.args.found.now.slot.now in
    let h = head_of q c.requires.found.sound in
    record {
      fits = search rules;
      registers = λ n b. subst (λ k. arg_reg slot n < k) (sym c.requires.fits.shape.registers_are) (arg_there (regs p) slot.args (listing q).routine.regs (listing q).routine.params (slot_pairs (listing p) slot (listing q) c.requires.found.types) h.types h.params n b);
      steps = steps_there q c.requires.found.sound;
      inside = let e = c.requires.same in let f = c.requires.fits.shape.lanes_are in omega (arith, e, f);
      mask = let e = c.requires.fits.shape.masks_are in omega (arith, e);
      first_inside = let f = c.requires.fits.shape.lanes_are in omega (arith, f);
    }

pub returns-clause-fits : goal.returns-clause-fits
returns-clause-fits c =
    let q = c.args.found.now.place in
    let p = c.args.place.now in
    let slot = call_site_of c.args.found.now.slot.now in
    fits_filled q c.args.callee.now c.fill.new.callee (lane_args (site p) slot (entry q) (lanes_of c.args.frame.now) c.args.first) (λ j. is_live c.args.m (lanes_of c.args.frame.now j)) c.requires.callee c.fill.ensures.fits c.fill.ensures.lanes
    (λ n i below inside. carried (regs p) (regs q) slot.args (listing q).routine.params (slot_pairs (listing p) slot (listing q) c.requires.found.types) n below _ (passed_word (slice_get (regs p) (arg_reg slot n)) (λ k. number_at (regs p) (lanes_of c.args.frame.now c.args.first) (arg_reg slot k)) (kind_at (entry q) n) (λ j. (lanes_of c.args.frame.now j).reg (arg_reg slot n)) c.args.first i (λ j. c.requires.fits.words j (arg_reg slot n))))

pub returns-clause-lanes : goal.returns-clause-lanes
returns-clause-lanes c =
    let q = c.args.found.now.place in
    let p = c.args.place.now in
    let slot = call_site_of c.args.found.now.slot.now in
    c.fill.ensures.lanes ∙ ap (λ n. first_lane n (listing q).routine.params (lane_args (site p) slot (entry q) (lanes_of c.args.frame.now) c.args.first) (λ j. is_live c.args.m (lanes_of c.args.frame.now j))) c.requires.callee.shape.lanes_are
