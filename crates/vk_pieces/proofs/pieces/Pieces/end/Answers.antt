use Rattle.std.proofs.Common.{◌≡◌, ◌+◌, ◌<◌, [], length, true, sym, ◌∙◌, arith}
use Rattle.vk_pieces.proofs.Taken.{none_pending}
use Rattle.vk_pieces.proofs.Stands.{ends_failed, ends_short, ends_whole}
use Rattle.vk_pieces.proofs.pieces.Pieces.end.Goals as goal

pub returns-in-Some : goal.returns-in-Some
returns-in-Some g c = λ f bytes h. ends_failed f (Unit {0}) (g.F.Fields.rows c.args.fields.now) c.in-Some.e _ c.args.self.now bytes c.in-Some.is h

pub returns-then-is_whole : goal.returns-then-is_whole
returns-then-is_whole g c = λ f bytes h.
    let s = c.args.self.now in
    let fields = c.args.fields.now in
    let whole : g.F.Fields.is_whole fields ≡ true = sym c.is_whole.ensures ∙ c.if-is_whole.true in
    let none : s.pending.items ≡ [] = none_pending s.pending.items (g.F.Fields.width fields) c.requires.fits (g.met.F.Fields.nothing fields whole) in
    ends_whole f (g.F.Fields.rows fields) _ s bytes c.in-None.is none (g.met.F.Fields.whole fields s.at whole) h

pub returns-in-Some-checked_add : goal.returns-in-Some-checked_add
returns-in-Some-checked_add g c = λ f bytes h.
    let s = c.args.self.now in
    let fields = c.args.fields.now in
    let width = g.F.Fields.width fields in
    let wide : 0 < width = omega (arith, c.if-width-eq0.false, c.width.ensures) in
    let len : c.len.result ≡ length s.pending.items = omega (arith, c.len.ensures, s.pending.ok.0) in
    let at : c.in-Some-checked_add.at ≡ s.at + length s.pending.items = omega (arith, c.in-Some-checked_add.ensures.1, len) in
    let short : length s.pending.items < width = omega (arith, c.requires.fits, wide) in
    rw (c.refused.ensures, at) (ends_short f width _ s bytes c.in-None.is (g.met.F.Fields.field fields s.at wide) short h)
