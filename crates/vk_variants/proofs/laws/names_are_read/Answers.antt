use Rattle.vk_variants.proofs.Texts.{names_spell}
use Rattle.vk_variants.proofs.laws.names_are_read.Goals as goal

pub returns : goal.returns
returns c = names_spell
