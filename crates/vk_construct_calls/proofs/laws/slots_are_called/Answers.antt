use Rattle.vk_construct_calls.proofs.Slots.{slot_does}
use Rattle.vk_construct_calls.proofs.laws.slots_are_called.Goals as goal

pub returns : goal.returns
returns c = slot_does
