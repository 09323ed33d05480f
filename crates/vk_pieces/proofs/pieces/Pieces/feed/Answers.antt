use Rattle.std.proofs.Common.{refl}
use Rattle.vk_pieces.proofs.Stands.{feeds, feeds_failed, stands_memory, tells, tells_failed}
use Rattle.vk_pieces.proofs.pieces.Pieces.feed.Goals as goal

pub returns-clause-fed : goal.returns-clause-fed
returns-clause-fed g c = λ f bytes h.
    feeds f c.goes.result _ _ c.args.self.now c.goes.new.self bytes c.args.piece.now c.in-None.is c.goes.ensures.ok c.goes.ensures.none c.goes.ensures.failed c.goes.ensures.err h

pub returns-clause-told : goal.returns-clause-told
returns-clause-told g c = λ f bytes h. tells f c.goes.result _ c.goes.new.self bytes c.goes.ensures.quiet c.goes.ensures.none c.goes.ensures.failed h

pub returns-in-Some-clause-fed : goal.returns-in-Some-clause-fed
returns-in-Some-clause-fed g c = λ f bytes h. feeds_failed f c.in-Some.e _ c.args.self.now bytes c.args.piece.now c.in-Some.is h

pub returns-in-Some-clause-told : goal.returns-in-Some-clause-told
returns-in-Some-clause-told g c = λ f bytes h. tells_failed f (Unit {0}) c.in-Some.e _ c.args.self.now bytes c.in-Some.is h

pub returns-then-not-has_room-clause-fed : goal.returns-then-not-has_room-clause-fed
returns-then-not-has_room-clause-fed g c = λ f bytes h. stands_memory f _ _ _ refl
