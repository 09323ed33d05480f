use Rattle.std.proofs.Common.{ap, ap₂, rules, sym, subst, to_z-of_z, ◌∙◌, ◌<◌}
use Rattle.std.specs.Int.{w128}
use Rattle.vk_types.specs.Formats.{type_number}
use Rattle.vk_types.specs.Numbers.{number_of}
use Rattle.vk_code.specs.Listing.{simd_site_of}
use Rattle.vk_object.specs.Images.{names_of}
use Rattle.vk_object.specs.Machine.{iterations}
use Rattle.vk_frames.specs.Frames.{lanes_of}
use Rattle.vk_steps.specs.Places.{listing, tables}
use Rattle.vk_args.proofs.Loops.{loop_registers}
use Rattle.vk_args.proofs.bounds.iterations.Goals as goal

pub operand-requires-clause-typed : goal.operand-requires-clause-typed
operand-requires-clause-typed c =
    let r = loop_registers (names_of (tables c.args.place.now)) (listing c.args.place.now).routine (simd_site_of c.args.site.now) c.requires.good in
    r.low.type ∙ ap type_number (sym c.ty_at-ty.ensures)

pub operand-requires-2-clause-register : goal.operand-requires-2-clause-register
operand-requires-2-clause-register c =
    let r = loop_registers (names_of (tables c.args.place.now)) (listing c.args.place.now).routine (simd_site_of c.args.site.now) c.requires.good in
    subst (λ k. c.args.site.now.high < k) (sym c.requires.fits.shape.registers_are) r.high.inside

pub operand-requires-2-clause-typed : goal.operand-requires-2-clause-typed
operand-requires-2-clause-typed c =
    let r = loop_registers (names_of (tables c.args.place.now)) (listing c.args.place.now).routine (simd_site_of c.args.site.now) c.requires.good in
    r.high.type ∙ ap type_number (r.same ∙ sym c.ty_at-ty.ensures)

pub returns : goal.returns
returns c =
    let r = loop_registers (names_of (tables c.args.place.now)) (listing c.args.place.now).routine (simd_site_of c.args.site.now) c.requires.good in
    let lane = lanes_of c.args.frame.now 0 in
    c.between.ensures ∙ ap₂ iterations
    (to_z-of_z {w = w128} (search rules) ∙ (c.number-low.ensures.number ∙ ap₂ number_of c.ty_at-ty.ensures c.operand.ensures.word))
    (to_z-of_z {w = w128} (search rules) ∙ (c.number-high.ensures.number ∙ ap₂ number_of (c.ty_at-ty.ensures ∙ sym r.same) c.operand-2.ensures.word))
