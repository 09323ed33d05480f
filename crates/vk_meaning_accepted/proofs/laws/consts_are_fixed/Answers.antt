use Rattle.vk_meaning_accepted.proofs.Programs.{consts_fixed}
use Rattle.vk_meaning_accepted.proofs.laws.consts_are_fixed.Goals as goal

pub returns : goal.returns
returns c = consts_fixed
