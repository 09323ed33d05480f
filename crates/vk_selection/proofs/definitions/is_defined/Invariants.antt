-- No item before the index defines it.
use Rattle.std.proofs.Common.{◌≡◌, false, take}
use Rattle.std.specs.List.{list_any}
use Rattle.vk_ast.specs.Units.{items_of}
use Rattle.vk_selection.specs.Selection.{is_definition}
use Rattle.vk_selection.proofs.definitions.is_defined.Given as goal

abbrev pub invariant-loop-number : goal.invariant-loop-number
invariant-loop-number l = list_any (is_definition l.fn.unit.names l.fn.name) (take l.number (items_of l.fn.unit)) ≡ false
