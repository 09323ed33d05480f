use Rattle.vk_accept.proofs.Identifiers.{unit_identifiers}
use Rattle.vk_accept.proofs.laws.functions_have_identifiers.Goals as goal

pub returns : goal.returns
returns c = λ bytes tokens names items target unit. unit_identifiers bytes tokens names items target unit (c.names_are_identifiers.ensures bytes names tokens unit.are)
