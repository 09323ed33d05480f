use Rattle.vk_compose.proofs.Compose.{composes}
use Rattle.vk_compose.proofs.laws.objects_compose.Goals as goal

pub returns : goal.returns
returns c = composes
