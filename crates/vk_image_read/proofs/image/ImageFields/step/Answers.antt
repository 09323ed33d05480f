use Rattle.std.proofs.Common.{◌+◌, refl}
use Rattle.vk_image_read.proofs.image.ImageFields.step.Goals as goal

pub returns-in-Main : goal.returns-in-Main
returns-in-Main g c = λ next. rw (c.in-Main.is, c.u32_of-self.ensures.number) refl

pub returns-in-CodeCount : goal.returns-in-CodeCount
returns-in-CodeCount g c = λ next.
    rw (c.in-CodeCount.is, ← c.u32_of-count.ensures.number, c.codes.ensures (c.args.at + 4) next, c.new-in-CodeCount.ensures.empty) refl
