use Rattle.vk_promises.proofs.Made.{codes_are}
use Rattle.vk_promises.proofs.laws.codes_are_made.Goals as goal

pub returns : goal.returns
returns c = codes_are
