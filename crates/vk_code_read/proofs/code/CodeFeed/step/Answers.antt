use Rattle.std.proofs.Common.{refl}
use Rattle.vk_code_read.proofs.code.CodeFeed.step.Goals as goal

pub returns-in-Err-number : goal.returns-in-Err-number
returns-in-Err-number g c = λ next. rw (c.in-BodyNumber.is) (c.in-Err-number.ensures next)

pub returns-in-High : goal.returns-in-High
returns-in-High g c = λ next. rw (c.in-High.is, c.u16_of-self-in-High.ensures.number) refl
