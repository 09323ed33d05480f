use Rattle.std.proofs.Common.{arith}
use Rattle.vk_rules.proofs.Told.{entry_told, functions_count}
use Rattle.vk_rules.proofs.accepted.Checked.entry.Goals as goal

pub index-requires : goal.index-requires
index-requires c = let count = functions_count _ _ _ c.self.view_is c.self.invariant.1 in omega (arith, count, c.requires)

pub returns : goal.returns
returns c = entry_told _ _ _ _ _ c.self.view_is c.self.invariant.1 c.requires c.index.ensures
