use Rattle.std.proofs.Common.{◌≡◌, ◌<◌, ℕ, arith, ap, map, rules, sym, subst, ◌∙◌, is_none}
use Rattle.std.specs.Prelude.{nat_lt}
use Rattle.vk_code.specs.Tests.{pairs}
use Rattle.vk_code.specs.Listing.{reg_type, simd_site_of}
use Rattle.vk_code.specs.Valid.{body_regs}
use Rattle.vk_code.proofs.Faults.{and_right}
use Rattle.vk_object.specs.Images.{is_equal, names_of, param_types}
use Rattle.vk_object.specs.Lane.{LaneState}
use Rattle.vk_object.specs.Machine.{body_args, first_lane}
use Rattle.vk_frames.specs.Frames.{lanes_of}
use Rattle.vk_steps.specs.Places.{entry, listing, regs, site, tables}
use Rattle.vk_args.specs.Bodies.{body_words}
use Rattle.vk_args.proofs.Counting.{body_word, same_first, words_agree}
use Rattle.vk_args.proofs.Loops.{loop_registers}
use Rattle.vk_args.proofs.Types.{fits_filled, head_of}
use Rattle.vk_args.proofs.pass.pass_body.Goals as goal

pub fill-requires-clause-mask : goal.fill-requires-clause-mask
fill-requires-clause-mask c = let h = head_of c.args.body.now.place c.requires.body.sound in let m = h.masks in let e = c.requires.callee.shape.masks_are in omega (arith, m, e)

pub fill-requires-clause-registers : goal.fill-requires-clause-registers
fill-requires-clause-registers c = let h = head_of c.args.body.now.place c.requires.body.sound in let m = h.params in let e = c.requires.callee.shape.registers_are in omega (arith, m, e)

pub fill-requires-clause-good : goal.fill-requires-clause-good
fill-requires-clause-good c =
    let p = c.args.place.now in
    let l = simd_site_of c.args.body.now.site.now in
    let r = loop_registers (names_of (tables p)) (listing p).routine l c.requires.body.good in
    let e = c.requires.fits.shape.registers_are in
    record {
      fits = search rules;
      some = let f = c.requires.fits.shape.lanes_are in omega (arith, f);
      low_there = subst (λ k. l.low < k) (sym e) r.low.inside;
      captures_there = λ n q g. subst (λ k. q < k) (sym e) (r.captures n q g);
    }

pub returns-clause-fits : goal.returns-clause-fits
returns-clause-fits c =
    let q = c.args.body.now.place in
    let p = c.args.place.now in
    let l = simd_site_of c.args.body.now.site.now in
    let types = and_right (is_none (listing q).routine.result) (pairs is_equal (map (reg_type (regs p)) (body_regs l)) (param_types (listing q))) c.requires.body.types in
    fits_filled q c.args.callee.now c.fill.new.callee (body_words (regs p) l (lanes_of c.args.frame.now 0) (entry q).lanes c.args.base c.args.turn) (λ i. nat_lt i (entry q).lanes) c.requires.callee c.fill.ensures.fits c.fill.ensures.lanes
    (λ n i below inside. body_word (regs p) (regs q) l (lanes_of c.args.frame.now 0) (entry q).lanes c.args.base c.args.turn (listing q).routine.params types (c.requires.fits.words 0) n i below)

pub returns-clause-lanes : goal.returns-clause-lanes
returns-clause-lanes c =
    let q = c.args.body.now.place in
    let p = c.args.place.now in
    let l = simd_site_of c.args.body.now.site.now in
    let lane : LaneState = lanes_of c.args.frame.now 0 in
    let lanes : ℕ = (entry q).lanes in
    let r = loop_registers (names_of (tables p)) (listing p).routine l c.requires.body.good in
    let words : ℕ → ℕ → ℕ = body_words (regs p) l lane lanes c.args.base c.args.turn in
    let same : (n j : ℕ) → n < (listing q).routine.params → j < lanes → words n j ≡ body_args (site p) l lane lanes c.args.base c.args.turn n j = λ n j b i. words_agree (site p) l lane lanes c.args.base c.args.turn r (c.requires.fits.words 0) c.requires.asked c.ranges-2.ensures.between c.conversion.ensures.keeps n j i in
    c.fill.ensures.lanes ∙ (ap (λ n. first_lane n (listing q).routine.params words (λ i. nat_lt i lanes)) c.requires.callee.shape.lanes_are
    ∙ same_first lanes (listing q).routine.params words (body_args (site p) l lane lanes c.args.base c.args.turn) (λ i. nat_lt i lanes) same)
