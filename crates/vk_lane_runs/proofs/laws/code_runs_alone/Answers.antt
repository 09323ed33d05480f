use Rattle.vk_lane_runs.proofs.Alone.{alone_run}
use Rattle.vk_lane_runs.proofs.laws.code_runs_alone.Goals as goal

pub returns : goal.returns
returns c = alone_run
