use Rattle.std.proofs.Common.{◌≡◌, ◌<◌, subst, sym, true, ◌∙◌}
use Rattle.vk_types.specs.declared.types.Ty.TheVariants.{I64}
use Rattle.vk_types.specs.Numbers.{number_of}
use Rattle.vk_object.specs.Images.{names_of}
use Rattle.vk_object.specs.Lane.{is_live}
use Rattle.vk_frames.specs.Frames.{lanes_of}
use Rattle.vk_steps.specs.Places.{listing, tables}
use Rattle.vk_steps.proofs.Typed.{print_typed}
use Rattle.vk_access.specs.Outer.{PutsLive}
use Rattle.vk_access.proofs.accesses.print_in.Goals as goal

pub word-requires-clause-register : goal.word-requires-clause-register
word-requires-clause-register g c = subst (λ n. c.args.a < n) (sym c.requires.fits.shape.registers_are) (print_typed (names_of (tables c.args.place.now)) (listing c.args.place.now).routine c.args.a c.requires.typed).0

pub returns-clause-put : goal.returns-clause-put
returns-clause-put g c = λ t.
    let l = lanes_of c.args.frame.now c.args.lane in
    let old = (g.O.Sink.state c.args.out.now).bytes in
    let new = (g.O.Sink.state c.print_line.new.out).bytes in
    let live : is_live c.args.m l ≡ true = sym c.is_live.ensures ∙ c.if-not-is_live.false in
    subst (λ w. PutsLive (is_live c.args.m l) old new c.print_line.result (number_of I64 w)) c.word.ensures
    (subst (λ b. PutsLive b old new c.print_line.result (number_of I64 c.word.result.0)) (sym live)
    (c.print_line.ensures.put t))
