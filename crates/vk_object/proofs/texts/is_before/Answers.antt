use Rattle.std.proofs.Common.{◌∙◌, sym, arith}
use Rattle.vk_object.proofs.Order.{before_past}
use Rattle.vk_object.proofs.texts.is_before.Goals as goal

pub returns : goal.returns
returns c = sym (c.loop-at.invariant ∙ before_past c.args.a.now c.args.b.now c.loop-at.at (omega arith))
