use Rattle.std.proofs.Common.{◌≡◌, map, take}
use Rattle.vk_code_format.specs.Parameters.{param_of}
use Rattle.vk_object_fields.specs.Cut.{cut_row}
use Rattle.vk_object_directives.proofs.directives.params_of.Given as goal

abbrev pub invariant-loop-row : goal.invariant-loop-row
invariant-loop-row l = l.params.items ≡ map (λ r. param_of (cut_row r)) (take l.row-index l.rows)
