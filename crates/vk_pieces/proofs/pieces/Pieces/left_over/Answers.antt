use Rattle.std.proofs.Common.{◌≡◌, [], sym}
use Rattle.std.proofs.lemmas.Bool.{eqb-true, eqb-false}
use Rattle.vk_pieces.proofs.Taken.{none_pending, over_none, over_quiet, over_tells}
use Rattle.vk_pieces.proofs.pieces.Pieces.left_over.Goals as goal

pub returns-then-is_empty-clause-ok : goal.returns-then-is_empty-clause-ok
returns-then-is_empty-clause-ok g c =
    let s = c.args.self.now in
    let fields = c.args.fields.now in
    let none : s.pending.items ≡ [] = none_pending s.pending.items (g.F.Fields.width fields) c.requires.fits (g.met.F.Fields.nothing fields c.requires.whole) in
    rw none (over_none (g.F.Fields.left fields s.at) (g.F.Fields.rows fields) s.at c.args.bytes.now (g.met.F.Fields.whole fields s.at c.requires.whole)
    (eqb-true _ _ (sym c.if-is_empty.ensures)))

pub returns-then-is_empty-clause-quiet : goal.returns-then-is_empty-clause-quiet
returns-then-is_empty-clause-quiet g c =
    let s = c.args.self.now in
    let fields = c.args.fields.now in
    let none : s.pending.items ≡ [] = none_pending s.pending.items (g.F.Fields.width fields) c.requires.fits (g.met.F.Fields.nothing fields c.requires.whole) in
    rw none (over_quiet (g.F.Fields.left fields s.at) (g.F.Fields.rows fields) s.at (g.met.F.Fields.whole fields s.at c.requires.whole))

pub returns-clause-err : goal.returns-clause-err
returns-clause-err g c = λ more.
    let s = c.args.self.now in
    let fields = c.args.fields.now in
    let none : s.pending.items ≡ [] = none_pending s.pending.items (g.F.Fields.width fields) c.requires.fits (g.met.F.Fields.nothing fields c.requires.whole) in
    rw (c.refused-e.ensures, none) (over_tells (g.F.Fields.left fields s.at) (g.F.Fields.rows fields) s.at c.args.bytes.now more
    (g.met.F.Fields.whole fields s.at c.requires.whole) (eqb-false _ _ (sym c.if-is_empty.ensures)))
