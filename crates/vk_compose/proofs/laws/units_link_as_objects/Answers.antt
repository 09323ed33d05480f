use Rattle.vk_compose.proofs.Bridge.{units_link}
use Rattle.vk_compose.proofs.laws.units_link_as_objects.Goals as goal

pub returns : goal.returns
returns c = units_link
