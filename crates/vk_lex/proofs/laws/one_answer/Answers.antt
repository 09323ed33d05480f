use Rattle.vk_lex.proofs.Loop.{lexes_only, lexes_or_refuses, refuses_only}
use Rattle.vk_lex.proofs.laws.one_answer.Goals as goal

pub returns-clause-one_list : goal.returns-clause-one_list
returns-clause-one_list c = lexes_only

pub returns-clause-not_both : goal.returns-clause-not_both
returns-clause-not_both c = lexes_or_refuses

pub returns-clause-one_fault : goal.returns-clause-one_fault
returns-clause-one_fault c = refuses_only
