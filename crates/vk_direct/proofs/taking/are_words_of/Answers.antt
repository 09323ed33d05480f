use Rattle.std.proofs.Common.{◌∙◌, arith, sym}
use Rattle.vk_direct.proofs.Words.{words_missing}
use Rattle.vk_direct.proofs.taking.are_words_of.Goals as goal

pub returns-then-rest-lanes : goal.returns-then-rest-lanes
returns-then-rest-lanes c = sym (c.loop-ty.invariant ∙ words_missing c.args.lanes c.args.types.now c.loop-ty.rest.now c.loop-ty.ty-index (omega arith) (omega arith))
