use Rattle.std.proofs.Common.{◌≡◌, take}
use Rattle.vk_parse.proofs.table.copy_table.Given as goal

abbrev pub invariant-loop-id : goal.invariant-loop-id
invariant-loop-id l = l.copy ≡ take l.id l.names
