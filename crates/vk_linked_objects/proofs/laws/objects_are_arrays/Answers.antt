use Rattle.vk_linked_objects.proofs.Linked.{objects_are}
use Rattle.vk_linked_objects.proofs.laws.objects_are_arrays.Goals as goal

pub returns : goal.returns
returns c ps accepted links p among text d defined image turns x code = objects_are ps accepted links p among text d defined image turns x code
