use Rattle.std.proofs.Common.{◌≡◌, map, take}
use Rattle.vk_cmd_mangle.specs.Mangle.{name_line}
use Rattle.vk_cmd_mangle.proofs.command.lines_in.Given as goal

abbrev pub invariant-loop-i : goal.invariant-loop-i
invariant-loop-i l = l.lines ≡ map name_line (take l.i l.names)
