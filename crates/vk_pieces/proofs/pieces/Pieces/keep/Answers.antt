use Rattle.std.proofs.Common.{◌<◌, ◌++◌, length, arith, length-append}
use Rattle.vk_pieces.proofs.Taken.{keeps, quiet}
use Rattle.vk_pieces.proofs.pieces.Pieces.keep.Goals as goal

pub returns-in-Ok-clause-ok : goal.returns-in-Ok-clause-ok
returns-in-Ok-clause-ok g c =
    let s = c.args.self.now in
    let width = g.F.Fields.width c.args.fields.now in
    let wide : length (s.pending.items ++ c.args.bytes.now) < width = omega (arith, c.requires.width, length-append s.pending.items c.args.bytes.now) in
    rw c.in-Ok.ensures.items (keeps (g.F.Fields.left c.args.fields.now s.at) width s.at (s.pending.items ++ c.args.bytes.now)
    (g.met.F.Fields.field c.args.fields.now s.at (omega (arith, wide))) wide)

pub returns-in-Ok-clause-quiet : goal.returns-in-Ok-clause-quiet
returns-in-Ok-clause-quiet g c =
    let s = c.args.self.now in
    quiet (g.F.Fields.left c.args.fields.now s.at) (g.F.Fields.width c.args.fields.now) s.at _
    (g.met.F.Fields.field c.args.fields.now s.at (omega (arith, c.requires.width)))
