use Rattle.std.proofs.Common.{refl}
use Rattle.vk_code_read.proofs.code.CodeFeed.new.Goals as goal

pub returns : goal.returns
returns g c = λ at next. rw (c.new.ensures.stage, c.new.ensures.place) refl
