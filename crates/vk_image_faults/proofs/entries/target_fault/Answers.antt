use Rattle.std.proofs.Common.{length, arith}
use Rattle.vk_code_format.specs.Values.{listing_of}
use Rattle.vk_image_format.specs.Values.{tables_of}
use Rattle.vk_image_faults.proofs.Linked.{at_end, calling_ends}
use Rattle.vk_image_faults.proofs.entries.target_fault.Goals as goal

pub returns : goal.returns
returns c = λ p at.
    let slots = c.args.slots.now in
    let targets = c.args.targets.now in
    calling_ends (tables_of c.args.image.now) c.args.entry.now (listing_of c.args.code.now) slots targets p c.loop-k.k c.loop-k.place
    (at_end (length slots) (length targets) c.loop-k.k (omega arith)) (c.loop-k.invariant p at)
