use Rattle.vk_lane_runs.proofs.Closing.{lane_run}
use Rattle.vk_lane_runs.proofs.laws.code_runs_on_lanes.Goals as goal

pub returns : goal.returns
returns c = lane_run
