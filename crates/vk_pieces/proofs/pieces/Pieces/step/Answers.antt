use Rattle.std.proofs.Common.{◌+◌, refl, ◌∙◌}
use Rattle.vk_code_read.specs.Inner.Left.{taken}
use Rattle.vk_pieces.proofs.Taken.{takes_field, tells_fail}
use Rattle.vk_pieces.proofs.pieces.Pieces.step.Goals as goal

pub returns-in-Err-clause-err : goal.returns-in-Err-clause-err
returns-in-Err-clause-err g c = λ more.
    let s = c.args.self.now in
    let width = g.F.Fields.width c.args.fields.now in
    let f = g.F.Fields.left c.args.fields.now s.at in
    rw (takes_field f width s.at c.args.field.now more (g.met.F.Fields.field c.args.fields.now s.at c.requires.wanted) c.requires.width)
    (tells_fail c.in-Err.e (taken f c.args.field.now) (s.at + width) more c.in-Err.ensures)

pub returns-in-Ok-clause-ok : goal.returns-in-Ok-clause-ok
returns-in-Ok-clause-ok g c = λ more.
    let s = c.args.self.now in
    let width = g.F.Fields.width c.args.fields.now in
    takes_field (g.F.Fields.left c.args.fields.now s.at) width s.at c.args.field.now more (g.met.F.Fields.field c.args.fields.now s.at c.requires.wanted) c.requires.width
    ∙ rw (c.in-Ok.ensures, c.requires.empty, c.requires.width) refl
