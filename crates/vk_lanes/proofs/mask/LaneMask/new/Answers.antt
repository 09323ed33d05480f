use Rattle.std.proofs.Common.{refl}
use Rattle.vk_lanes.proofs.Bits.{all_off}
use Rattle.vk_lanes.proofs.mask.LaneMask.new.Goals as goal

pub returns-clause-off : goal.returns-clause-off
returns-clause-off c = all_off _ refl
