use Rattle.vk_names.proofs.Exact.{written_is_spelled}
use Rattle.vk_names.proofs.laws.written_is_read.Goals as goal

pub returns : goal.returns
returns c = written_is_spelled
