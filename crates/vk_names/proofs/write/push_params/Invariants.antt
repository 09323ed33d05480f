use Rattle.std.proofs.Common.{◌≡◌, ◌≤◌, ◌+◌, ◌*◌, ◌++◌, length, map, take}
use Rattle.vk_names.specs.Spelling.{params_text, in_decimal}
use Rattle.vk_names.proofs.write.push_params.Given as goal

abbrev pub invariant-loop-param : goal.invariant-loop-param
invariant-loop-param l = (length l.out.items ≤ 16 + 23 * l.param-index) × (l.out.items ≡ l.fn.out.items ++ params_text (map in_decimal (take l.param-index l.params)))
