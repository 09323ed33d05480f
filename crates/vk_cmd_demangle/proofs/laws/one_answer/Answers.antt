use Rattle.vk_cmd_demangle.proofs.Lined.{one_refusal_told, one_text}
use Rattle.vk_cmd_demangle.proofs.laws.one_answer.Goals as goal

pub returns : goal.returns
returns c = record { agrees = one_text; refusal = one_refusal_told }
