use Rattle.std.proofs.Common.{◌≡◌, map, take}
use Rattle.vk_kinds.specs.Sizes.{signature_tree}
use Rattle.vk_object_format.specs.Values.{signature_of}
use Rattle.vk_object_rows.proofs.directives.directives_of.Given as goal

abbrev pub invariant-loop-row : goal.invariant-loop-row
invariant-loop-row l = map signature_tree l.directives.items ≡ map signature_of (take l.row-index l.rows)
