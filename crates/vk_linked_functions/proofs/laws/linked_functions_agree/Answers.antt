use Rattle.vk_joins.specs.Carries.{units_of}
use Rattle.vk_linked_functions.proofs.Agreeing.{functions_agree, print_has_none}
use Rattle.vk_linked_functions.proofs.laws.linked_functions_agree.Goals as goal

pub returns-clause-agree : goal.returns-clause-agree
returns-clause-agree c ps accepted links = functions_agree ps accepted links

pub returns-clause-print : goal.returns-clause-print
returns-clause-print c ps = print_has_none (units_of ps)
