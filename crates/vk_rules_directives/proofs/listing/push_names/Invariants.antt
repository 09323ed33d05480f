use Rattle.std.proofs.Common.{◌≡◌, ◌++◌, map, take}
use Rattle.vk_rules_directives.specs.Inner.Tables.{entry_of}
use Rattle.vk_rules_directives.proofs.listing.push_names.Given as goal

abbrev pub invariant-loop-n : goal.invariant-loop-n
invariant-loop-n l = l.entries.items ≡ l.fn.entries.items ++ map (entry_of l.listed) (take l.n-index l.names)
