use Rattle.vk_compose.proofs.Program.{runs_as_read}
use Rattle.vk_compose.proofs.laws.programs_run_as_read.Goals as goal

pub returns : goal.returns
returns c = runs_as_read
