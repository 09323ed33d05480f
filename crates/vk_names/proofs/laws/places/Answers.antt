use Rattle.vk_names.proofs.Places.{place_within}
use Rattle.vk_names.proofs.laws.places.Goals as goal

pub returns : goal.returns
returns c = place_within
