use Rattle.std.proofs.Common.{refl}
use Rattle.vk_lanes.proofs.Bits.{all_on}
use Rattle.vk_lanes.proofs.mask.LaneMask.all.Goals as goal

pub returns-clause-on : goal.returns-clause-on
returns-clause-on c = all_on _ refl
