use Rattle.vk_rules_laws.proofs.Sizes.{sum_fits}
use Rattle.vk_rules_laws.proofs.laws.costs_fit.Goals as goal

pub returns : goal.returns
returns c = sum_fits
