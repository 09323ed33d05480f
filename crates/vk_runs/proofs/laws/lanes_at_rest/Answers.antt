use Rattle.vk_runs.proofs.Rests.{run_rests}
use Rattle.vk_runs.proofs.laws.lanes_at_rest.Goals as goal

pub returns : goal.returns
returns c = run_rests
