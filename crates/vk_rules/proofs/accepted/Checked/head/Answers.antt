use Rattle.vk_rules.proofs.Told.{head_told}
use Rattle.vk_rules.proofs.accepted.Checked.head.Goals as goal

pub returns : goal.returns
returns c = head_told _ _ c.entry.ensures
