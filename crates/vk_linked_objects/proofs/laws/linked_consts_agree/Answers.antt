use Rattle.vk_linked_objects.proofs.Linked.{consts_agree}
use Rattle.vk_linked_objects.proofs.laws.linked_consts_agree.Goals as goal

pub returns : goal.returns
returns c ps accepted links = consts_agree ps accepted links
