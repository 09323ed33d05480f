use Rattle.std.proofs.Common.{refl}
use Rattle.vk_code_read.proofs.front.FrontFeed.step.Goals as goal

pub returns-in-ArgReg : goal.returns-in-ArgReg
returns-in-ArgReg g c = λ next. rw (c.in-ArgReg.is, c.u16_of-in-ArgReg.ensures.number) refl
