use Rattle.std.proofs.Common.{refl}
use Rattle.vk_code_read.proofs.code.CodeFeed.begin_body.Goals as goal

pub returns-in-Object : goal.returns-in-Object
returns-in-Object g c = λ at next. rw (c.in-Object.is, c.new.ensures.stage, c.new.ensures.place, c.as_slice-captures.ensures.items) refl
