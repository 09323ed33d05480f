use Rattle.vk_lane.specs.Entries.{place_of}
use Rattle.vk_construct_calls.proofs.Gathering.{gathers_more, then_call}
use Rattle.vk_construct_calls.proofs.laws.calls_follow_arguments.Goals as goal

pub returns-clause-arguments : goal.returns-clause-arguments
returns-clause-arguments c = λ q. gathers_more (place_of q)

pub returns-clause-call : goal.returns-clause-call
returns-clause-call c = λ q. then_call (place_of q)
