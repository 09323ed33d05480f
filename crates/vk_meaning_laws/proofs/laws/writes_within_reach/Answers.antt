use Rattle.vk_meaning_laws.proofs.Locality.{writes_within}
use Rattle.vk_meaning_laws.proofs.laws.writes_within_reach.Goals as goal

pub returns : goal.returns
returns c = writes_within
