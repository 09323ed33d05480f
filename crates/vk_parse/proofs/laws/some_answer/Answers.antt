use Rattle.vk_parse.proofs.Total.{some_answer}
use Rattle.vk_parse.proofs.laws.some_answer.Goals as goal

pub returns : goal.returns
returns c = some_answer
