use Rattle.vk_cmd_lanes.proofs.Lined.{one_text}
use Rattle.vk_cmd_lanes.proofs.laws.one_answer.Goals as goal

pub returns : goal.returns
returns c = one_text
