use Rattle.vk_object_codec.proofs.Again.{no_fault, same_lists}
use Rattle.vk_object_codec.proofs.laws.read_again.Goals as goal

pub returns : goal.returns
returns c = record { no_fault = no_fault; same = same_lists }
