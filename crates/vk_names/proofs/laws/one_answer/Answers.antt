use Rattle.vk_names.proofs.Exact.{some_answer, one_name, spelled_or_refused, one_refusal}
use Rattle.vk_names.proofs.laws.one_answer.Goals as goal

pub returns : goal.returns
returns c = record { some = some_answer; not_both = spelled_or_refused; one_name = one_name; one_refusal = one_refusal }
