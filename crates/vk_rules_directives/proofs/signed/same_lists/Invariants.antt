use Rattle.std.proofs.Common.{◌≡◌, drop, map}
use Rattle.vk_rules_directives.specs.Inner.Signed.{same_lists, seen}
use Rattle.vk_rules_directives.proofs.signed.same_lists.Given as goal

abbrev pub invariant-loop-i : goal.invariant-loop-i
invariant-loop-i l = same_lists (map seen l.first) (map seen l.own) ≡ same_lists (map seen (drop l.i l.first)) (map seen (drop l.i l.own))
