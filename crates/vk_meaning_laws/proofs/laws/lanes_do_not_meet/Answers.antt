use Rattle.vk_meaning_laws.proofs.Locality.{lanes_apart}
use Rattle.vk_meaning_laws.proofs.laws.lanes_do_not_meet.Goals as goal

pub returns : goal.returns
returns c = lanes_apart
