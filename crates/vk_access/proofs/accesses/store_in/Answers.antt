use Rattle.std.proofs.Common.{◌<◌, ap, is_some, subst, sym, ◌∙◌}
use Rattle.vk_object.specs.Images.{names_of}
use Rattle.vk_object.specs.Memory.{cell_of}
use Rattle.vk_frames.specs.Frames.{lanes_of}
use Rattle.vk_steps.specs.Places.{listing, tables}
use Rattle.vk_steps.proofs.Typed.{store_typed}
use Rattle.vk_access.specs.Stores.{extents}
use Rattle.vk_access.proofs.Laned.{stored_lane}
use Rattle.vk_access.proofs.accesses.store_in.Goals as goal

pub word-requires-clause-register : goal.word-requires-clause-register
word-requires-clause-register c = subst (λ n. c.args.a < n) (sym c.requires.fits.shape.registers_are) (store_typed (names_of (tables c.args.place.now)) (listing c.args.place.now).routine c.args.a c.args.b c.requires.typed).a_in

pub returns-else-not-assign-clause-lanes : goal.returns-else-not-assign-clause-lanes
returns-else-not-assign-clause-lanes c =
    let before = lanes_of c.args.frame.now in
    let arrays = extents c.args.place.now.image.now in
    stored_lane before c.args.lane c.args.m (cell_of arrays ((before c.args.lane).reg c.args.a))
    (ap (λ w. is_some (cell_of arrays w)) (sym c.word.ensures) ∙ (sym c.assign.ensures.found ∙ c.if-not-assign.false))
