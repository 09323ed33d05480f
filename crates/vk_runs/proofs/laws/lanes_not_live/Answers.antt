use Rattle.vk_runs.proofs.Kept.{registers_kept}
use Rattle.vk_runs.proofs.laws.lanes_not_live.Goals as goal

pub returns : goal.returns
returns c = registers_kept
