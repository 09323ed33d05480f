use Rattle.std.proofs.Common.{◌≡◌, map, take}
use Rattle.vk_code_format.specs.Parameters.{param_of}
use Rattle.vk_image_rows.proofs.params.params_of.Given as goal

abbrev pub invariant-loop-row : goal.invariant-loop-row
invariant-loop-row l = l.params.items ≡ map param_of (take l.row-index l.rows)
