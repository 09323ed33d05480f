use Rattle.std.proofs.Common.{◌≡◌, ◌++◌, map, take}
use Rattle.std.specs.List.{flat_map}
use Rattle.vk_kinds.specs.Sizes.{head_types, signature_tree}
use Rattle.vk_variants.specs.Directives.{directive_names}
use Rattle.vk_rules.proofs.listing.add_function.Given as goal

abbrev pub invariant-loop-s : goal.invariant-loop-s
invariant-loop-s l = l.list ≡ l.fn.list ++ flat_map (directive_names l.target l.scalar (head_types l.entry.head)) (map signature_tree (take l.s-index l.entry.signatures.items))
