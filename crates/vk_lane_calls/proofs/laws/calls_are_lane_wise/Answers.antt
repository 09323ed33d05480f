use Rattle.vk_lane.specs.Entries.{place_of}
use Rattle.vk_lane_calls.proofs.Slots.{call_on_lanes}
use Rattle.vk_lane_calls.proofs.laws.calls_are_lane_wise.Goals as goal

pub returns : goal.returns
returns c = λ q. call_on_lanes (place_of q) q.bodies
