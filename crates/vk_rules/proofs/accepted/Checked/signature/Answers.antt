use Rattle.std.proofs.Common.{arith}
use Rattle.vk_rules.proofs.Told.{count_told, signature_told}
use Rattle.vk_rules.proofs.accepted.Checked.signature.Goals as goal

pub index-requires : goal.index-requires
index-requires c = let count = count_told _ _ c.entry-entry.ensures in omega (arith, count, c.requires.directive)

pub returns : goal.returns
returns c = signature_told _ _ _ _ c.entry-entry.ensures c.requires.directive c.index.ensures
