use Rattle.vk_kinds.proofs.Apart.{variants_are_different, pairs_differ}
use Rattle.vk_kinds.proofs.laws.different_variants.Goals as goal

pub returns : goal.returns
returns c t h s = pairs_differ _ (variants_are_different t h s)
