use Rattle.vk_meaning_terms.proofs.Ranges.{in_range}
use Rattle.vk_meaning_terms.proofs.laws.expressions_give_their_types.Goals as goal

pub returns : goal.returns
returns c = in_range
