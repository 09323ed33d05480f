use Rattle.std.proofs.Common.{◌≡◌, map, take}
use Rattle.vk_code_rows.specs.Made.{made_arg}
use Rattle.vk_code_rows.proofs.make.args_of.Given as goal

abbrev pub invariant-loop-row : goal.invariant-loop-row
invariant-loop-row l = l.args.items ≡ map made_arg (take l.row-index l.rows)
