use Rattle.std.proofs.Common.{◌∙◌}
use Rattle.std.proofs.lemmas.Result.{on_ok_weaker}
use Rattle.vk_pieces.proofs.Stands.{at_last}
use Rattle.vk_pieces.proofs.pieces.Pieces.goes.Goals as goal

pub returns-then-is_whole-clause-ok : goal.returns-then-is_whole-clause-ok
returns-then-is_whole-clause-ok g c =
    on_ok_weaker c.left_over.result (λ e. at_last _ _ c.args.self.now c.loop-self.self c.args.piece.now c.loop-self.rest.now c.loop-self.invariant.1 ∙ e) c.left_over.ensures.ok

pub returns-then-rest-missing-clause-ok : goal.returns-then-rest-missing-clause-ok
returns-then-rest-missing-clause-ok g c =
    on_ok_weaker c.keep.result (λ e. at_last _ _ c.args.self.now c.loop-self.self c.args.piece.now c.loop-self.rest.now c.loop-self.invariant.1 ∙ e) c.keep.ensures.ok
