use Rattle.vk_runs.proofs.Logs.{log_grows}
use Rattle.vk_runs.proofs.laws.logs.Goals as goal

pub returns : goal.returns
returns c = log_grows
