use Rattle.vk_joins_laws.proofs.Arrays.{arrays_are}
use Rattle.vk_joins_laws.proofs.laws.arrays_stay.Goals as goal

pub returns : goal.returns
returns c = arrays_are
