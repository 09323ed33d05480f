use Rattle.std.proofs.Common.{arith}
use Rattle.vk_rules.proofs.Told.{count_told}
use Rattle.vk_rules.proofs.accepted.Checked.directives.Goals as goal

pub returns : goal.returns
returns c = let count = count_told _ _ c.entry.ensures in omega (arith, count, c.len.ensures)
