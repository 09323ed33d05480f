-- The bytes of the pieces so far.
use Rattle.vk_files.proofs.Writings.{HasWritten}
use Rattle.vk_files.proofs.output.write_pieces.Given as goal

abbrev pub invariant-loop-piece : goal.invariant-loop-piece
invariant-loop-piece g l = HasWritten (λ piece. piece.now) l.name (g.S.Store.state l.fn.store) (g.S.Store.state l.store) l.pieces l.piece-index
