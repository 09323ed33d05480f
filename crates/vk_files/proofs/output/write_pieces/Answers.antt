use Rattle.std.proofs.Common.{rules}
use Rattle.vk_files.proofs.Writings.{HasWritten-stops}
use Rattle.vk_files.proofs.output.write_pieces.Goals as goal

pub returns-in_err-append-clause-front : goal.returns-in_err-append-clause-front
returns-in_err-append-clause-front g c = λ told.
    HasWritten-stops (λ piece. piece.now) c.args.name.now (g.S.Store.state c.args.store.now) (g.S.Store.state c.loop-piece.store) (g.S.Store.state c.append.new.self)
    c.args.pieces.now c.loop-piece.piece-index _ _ c.loop-piece.invariant c.loop-piece-test.true c.append.ensures.appended (search rules) told
