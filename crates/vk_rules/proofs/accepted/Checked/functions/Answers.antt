use Rattle.std.proofs.Common.{arith}
use Rattle.vk_rules.proofs.Told.{functions_count}
use Rattle.vk_rules.proofs.accepted.Checked.functions.Goals as goal

pub returns : goal.returns
returns c = let count = functions_count _ _ _ c.self.view_is c.self.invariant.1 in omega (arith, count, c.len.ensures)
