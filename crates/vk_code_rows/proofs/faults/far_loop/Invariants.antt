use Rattle.std.proofs.Common.{◌≡◌, true, take}
use Rattle.std.specs.List.{list_all}
use Rattle.vk_code_rows.specs.Made.{is_near_loop}
use Rattle.vk_code_rows.proofs.faults.far_loop.Given as goal

abbrev pub invariant-loop-at : goal.invariant-loop-at
invariant-loop-at l = list_all is_near_loop (take l.at l.rows) ≡ true
