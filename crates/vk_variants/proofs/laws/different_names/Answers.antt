use Rattle.vk_variants.proofs.Texts.{names_differ}
use Rattle.vk_variants.proofs.laws.different_names.Goals as goal

pub returns : goal.returns
returns c = names_differ
