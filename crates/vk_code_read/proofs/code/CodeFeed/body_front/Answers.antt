use Rattle.std.proofs.Common.{refl}
use Rattle.vk_code_read.specs.Inner.LeftCode.{after_body_front, body_next}
use Rattle.vk_code_read.proofs.code.CodeFeed.body_front.Goals as goal

pub returns-in-Done : goal.returns-in-Done
returns-in-Done g c = λ next.
    rw (c.requires.stage, c.in-Ok.ensures (after_body_front (body_next c.args.self.now c.args.left next)), c.in-Done.is) refl
