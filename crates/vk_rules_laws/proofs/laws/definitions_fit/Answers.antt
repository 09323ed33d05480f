use Rattle.vk_rules_laws.proofs.Sizes.{definition_fits}
use Rattle.vk_rules_laws.proofs.laws.definitions_fit.Goals as goal

pub returns-clause-variables : goal.returns-clause-variables
returns-clause-variables c = λ unit quiet f is_in body is. (definition_fits unit quiet f is_in body is).0

pub returns-clause-nodes : goal.returns-clause-nodes
returns-clause-nodes c = λ unit quiet f is_in body is. (definition_fits unit quiet f is_in body is).1
