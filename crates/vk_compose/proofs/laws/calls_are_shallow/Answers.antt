use Rattle.vk_compose.proofs.Compose.{shallow}
use Rattle.vk_compose.proofs.laws.calls_are_shallow.Goals as goal

pub returns : goal.returns
returns c = shallow
