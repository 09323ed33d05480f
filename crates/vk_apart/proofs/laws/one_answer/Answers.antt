use Rattle.vk_apart.proofs.Answering.{one_call_rule, taken_or_refused}
use Rattle.vk_apart.proofs.laws.one_answer.Goals as goal

pub returns-clause-one : goal.returns-clause-one
returns-clause-one c = one_call_rule

pub returns-clause-apart : goal.returns-clause-apart
returns-clause-apart c = taken_or_refused
