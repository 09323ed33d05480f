use Rattle.vk_rules_laws.proofs.Visited.{nothing_at}
use Rattle.vk_rules_laws.proofs.laws.no_fault.Goals as goal

pub returns : goal.returns
returns c = nothing_at
