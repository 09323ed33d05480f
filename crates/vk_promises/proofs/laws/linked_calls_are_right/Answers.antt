use Rattle.vk_promises.proofs.Targets.{call_is_right}
use Rattle.vk_promises.proofs.laws.linked_calls_are_right.Goals as goal

pub returns : goal.returns
returns c = call_is_right
