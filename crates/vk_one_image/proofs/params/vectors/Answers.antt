-- One parameter more.
use Rattle.std.proofs.Common.{ap, sym, ◌∙◌, ◌++◌, ◌+◌}
use Rattle.vk_one_image.specs.Tables.{vectors}
use Rattle.vk_one_image.proofs.Valid.{one_more}
use Rattle.vk_one_image.proofs.params.vectors.Goals as goal

pub loop-preserved : goal.loop-preserved
loop-preserved c = (c.push.ensures.items ∙ (ap (λ ps. ps ++ vectors 1) c.loop.invariant.0 ∙ sym (one_more c.loop.counter)), c.push.ensures.len ∙ ap (λ n. n + 1) c.loop.invariant.1)
