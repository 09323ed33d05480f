use Rattle.std.proofs.Common.{◌≡◌, ◌+◌, true, arith}
use Rattle.std.specs.Prelude.{nat_le}
use Rattle.std.proofs.lemmas.Bool.{le-leb}
use Rattle.vk_kinds.specs.Sizes.{bytes_of}
use Rattle.vk_image_read.proofs.array.ArrayFeed.step.Goals as goal

pub returns-in-Err-elements : goal.returns-in-Err-elements
returns-in-Err-elements g c = λ next.
    let h = c.in-Err-elements.ensures c.args.before.now (c.args.at + 4) next in
    let passes : nat_le c.u32_of-given.result c.args.self.now.array.length ≡ true = le-leb _ _ (omega (arith, c.if-self-given.false)) in
    rw (c.in-Given.is, ← c.u32_of-given.ensures.number, passes) (rw (c.new.ensures.empty) at h)

pub returns-in-Err-elements-2 : goal.returns-in-Err-elements-2
returns-in-Err-elements-2 g c = λ next.
    let h = c.in-Err-elements-2.ensures c.args.before.now (c.args.at + bytes_of c.args.self.now.array.ty) next in
    rw (c.in-Element.is, ← c.element_of-element.ensures) (rw (c.in_ok-push-in-Element.ensures.ok) at h)
