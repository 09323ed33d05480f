use Rattle.vk_runs.proofs.Rests.{off_lanes_run_on, value_at_first}
use Rattle.vk_runs.proofs.laws.lanes_off.Goals as goal

pub returns-clause-stop : goal.returns-clause-stop
returns-clause-stop c = off_lanes_run_on

pub returns-clause-value : goal.returns-clause-value
returns-clause-value c = value_at_first
