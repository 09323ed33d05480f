use Rattle.std.proofs.Common.{◌≡◌, ◌+◌, true, cond, refl, arith}
use Rattle.std.specs.Prelude.{nat_le}
use Rattle.std.proofs.lemmas.Bool.{le-leb}
use Rattle.vk_kinds.specs.Sizes.{bytes_of}
use Rattle.vk_object_read.proofs.data.DataFeed.step.Goals as goal

pub returns-in-Err : goal.returns-in-Err
returns-in-Err g c = λ next.
    let d = c.args.self.now.data in
    let h = c.in-Err.ensures (c.args.at + 4) next in
    let passes : nat_le c.u32_of-given.result (cond d.defined d.length 0) ≡ true =
    le-leb _ _ (omega (arith, c.if-room-given.false, c.room.ensures)) in
    rw (c.in-Given.is, ← c.u32_of-given.ensures.number, passes) (rw (c.new.ensures.empty) at h)

pub returns-in-Err-elements : goal.returns-in-Err-elements
returns-in-Err-elements g c = λ next.
    let h = c.in-Err-elements.ensures (c.args.at + bytes_of c.args.self.now.data.ty) next in
    rw (c.in-Element.is, ← c.element_of-element.ensures) (rw (c.in_ok-push-in-Element.ensures.ok) at h)
