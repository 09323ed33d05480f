use Rattle.vk_meaning_terms.proofs.Depth.{call_unfolds, deeper}
use Rattle.vk_meaning_terms.proofs.laws.depth_is_of_no_matter.Goals as goal

pub returns-clause-deeper : goal.returns-clause-deeper
returns-clause-deeper c = deeper

pub returns-clause-unfolds : goal.returns-clause-unfolds
returns-clause-unfolds c = call_unfolds
