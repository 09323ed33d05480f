use Rattle.vk_linked_calls.proofs.Lined.{call_lined}
use Rattle.vk_linked_calls.proofs.laws.lane_functions_call_such.Goals as goal

pub returns : goal.returns
returns c v accepted text d defined g first lines site among = call_lined v accepted text d defined g first lines site among
