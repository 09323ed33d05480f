use Rattle.vk_construct_statements.proofs.Flow.{flow_branch, flow_then}
use Rattle.vk_construct_statements.proofs.Looping.{flow_while}
use Rattle.vk_construct_statements.proofs.laws.statements_follow.Goals as goal

pub returns-clause-sequence : goal.returns-clause-sequence
returns-clause-sequence c = flow_then

pub returns-clause-branch : goal.returns-clause-branch
returns-clause-branch c = flow_branch

pub returns-clause-repeat : goal.returns-clause-repeat
returns-clause-repeat c = flow_while
