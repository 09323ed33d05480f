use Rattle.std.proofs.Common.{◌≡◌, map, take}
use Rattle.vk_object.specs.Objects.{function_list_of}
use Rattle.vk_object_format.specs.Values.{function_of}
use Rattle.vk_object_rows.proofs.functions.functions_of.Given as goal

abbrev pub invariant-loop-row : goal.invariant-loop-row
invariant-loop-row l = map function_list_of l.functions.items ≡ map function_of (take l.row-index l.rows)
