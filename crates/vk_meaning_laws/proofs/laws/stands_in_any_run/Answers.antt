use Rattle.vk_meaning_laws.proofs.Frame.{stands_behind}
use Rattle.vk_meaning_laws.proofs.laws.stands_in_any_run.Goals as goal

pub returns : goal.returns
returns c = stands_behind
