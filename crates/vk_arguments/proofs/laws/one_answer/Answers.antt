use Rattle.vk_arguments.proofs.Unique.{one_rule, taken_apart}
use Rattle.vk_arguments.proofs.laws.one_answer.Goals as goal

pub returns-clause-one : goal.returns-clause-one
returns-clause-one c = one_rule

pub returns-clause-apart : goal.returns-clause-apart
returns-clause-apart c = taken_apart
