use Rattle.vk_promises.proofs.Ends.{calls_uniform}
use Rattle.vk_promises.proofs.laws.calls_are_uniform.Goals as goal

pub returns : goal.returns
returns c units image turns d s array = calls_uniform units image turns d s array (c.stands_in_any_run.ensures units turns)
