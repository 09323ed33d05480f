use Rattle.vk_meaning_laws.proofs.OneAnswer.{one_memory, one_stop}
use Rattle.vk_meaning_laws.proofs.laws.lanes_have_one_answer.Goals as goal

pub returns-clause-memory : goal.returns-clause-memory
returns-clause-memory c scalar ts arrays lanes mask words m old new new' stops stops' n n' first second = one_memory first second

pub returns-clause-stops : goal.returns-clause-stops
returns-clause-stops c scalar ts arrays lanes mask words m old new new' stops stops' n n' first second = one_stop first second
