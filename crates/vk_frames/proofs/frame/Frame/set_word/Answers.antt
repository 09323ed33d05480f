use Rattle.std.proofs.Common.{◌≡◌, ◌<◌, ap, ◌∙◌, subst}
use Rattle.std.specs.Prelude.{length, slice_set}
use Rattle.vk_frames.specs.Rows.{lane_of, place_of}
use Rattle.vk_frames.proofs.Writes.{lane_with_reg}
use Rattle.vk_frames.proofs.frame.Frame.set_word.Goals as goal

pub returns-clause-lanes : goal.returns-clause-lanes
returns-clause-lanes c =
    let f = c.args.self.now in
    let at : c.place-place.result ≡ place_of f.lanes c.args.register c.args.lane = c.place-place.ensures.place ∙ ap (λ n. place_of f.lanes n c.args.lane) c.from.ensures in
    ap (λ n. lane_of f.lanes f.registers (slice_set f.words.now n c.args.word) f.stops) at
    ∙ lane_with_reg f.lanes f.registers f.words.now f.stops c.args.lane c.args.word c.requires.lane c.args.register c.requires.register
    (subst (λ n. n < length f.words.now) at c.place-place.ensures.inside)
