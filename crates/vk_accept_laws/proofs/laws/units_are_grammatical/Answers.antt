use Rattle.vk_accept_laws.proofs.Grammatical.{grammatical}
use Rattle.vk_accept_laws.proofs.laws.units_are_grammatical.Goals as goal

pub returns : goal.returns
returns c = grammatical
