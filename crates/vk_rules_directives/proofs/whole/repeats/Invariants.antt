use Rattle.std.proofs.Common.{◌≡◌, map, take}
use Rattle.std.specs.List.{list_any}
use Rattle.vk_kinds.specs.Sizes.{head_types, signature_tree}
use Rattle.vk_rules_directives.specs.Inner.Signed.{gives_too, seen}
use Rattle.vk_rules_directives.proofs.whole.repeats.Given as goal

abbrev pub invariant-loop-s : goal.invariant-loop-s
invariant-loop-s l = l.given ≡ list_any (gives_too l.target (head_types l.h) (signature_tree l.t)) (map seen (take l.s-index l.earlier))
