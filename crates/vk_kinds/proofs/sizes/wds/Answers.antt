use Rattle.std.proofs.Common.{◌∙◌}
use Rattle.vk_kinds.specs.Sizes.{head_types, signature_tree}
use Rattle.vk_kinds.proofs.Facts.{greatest_result}
use Rattle.vk_kinds.proofs.sizes.wds.Goals as goal

pub returns-clause-size : goal.returns-clause-size
returns-clause-size c = greatest_result (head_types c.args.h.now) (signature_tree c.args.s.now) _ _ (c.as_slice.ensures.value ∙ c.all_sizes.ensures) c.greatest_of.ensures
