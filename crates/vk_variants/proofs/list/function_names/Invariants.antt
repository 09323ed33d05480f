use Rattle.std.proofs.Common.{◌≡◌, map, take}
use Rattle.std.specs.List.{flat_map}
use Rattle.vk_kinds.specs.Sizes.{head_types, signature_tree}
use Rattle.vk_variants.specs.Directives.{directive_names}
use Rattle.vk_variants.proofs.list.function_names.Given as goal

abbrev pub invariant-loop-s : goal.invariant-loop-s
invariant-loop-s l = l.list ≡ flat_map (directive_names l.target l.scalar (head_types l.h)) (map signature_tree (take l.s-index l.signatures))
