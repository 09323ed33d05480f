use Rattle.std.proofs.Common.{◌<◌, subst, sym}
use Rattle.vk_object.specs.Images.{names_of}
use Rattle.vk_steps.specs.Places.{listing, tables}
use Rattle.vk_steps.proofs.Typed.{load_typed}
use Rattle.vk_access.proofs.accesses.load_in.Goals as goal

pub word-pointer-requires-clause-register : goal.word-pointer-requires-clause-register
word-pointer-requires-clause-register c = subst (λ n. c.args.a < n) (sym c.requires.fits.shape.registers_are) (load_typed (names_of (tables c.args.place.now)) (listing c.args.place.now).routine c.args.d c.args.a c.requires.typed).a_in

pub settle-requires-clause-d : goal.settle-requires-clause-d
settle-requires-clause-d c = subst (λ n. c.args.d < n) (sym c.requires.fits.shape.registers_are) (load_typed (names_of (tables c.args.place.now)) (listing c.args.place.now).routine c.args.d c.args.a c.requires.typed).to.inside

pub settle-requires-in-None-clause-d : goal.settle-requires-in-None-clause-d
settle-requires-in-None-clause-d c = subst (λ n. c.args.d < n) (sym c.requires.fits.shape.registers_are) (load_typed (names_of (tables c.args.place.now)) (listing c.args.place.now).routine c.args.d c.args.a c.requires.typed).to.inside
