use Rattle.vk_compose.proofs.Bridge.{links}
use Rattle.vk_compose.proofs.laws.linking.Goals as goal

pub returns : goal.returns
returns c = links
