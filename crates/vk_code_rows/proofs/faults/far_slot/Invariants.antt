use Rattle.std.proofs.Common.{◌≡◌, true, take}
use Rattle.std.specs.List.{list_all}
use Rattle.vk_code_rows.specs.Made.{is_near_call}
use Rattle.vk_code_rows.proofs.faults.far_slot.Given as goal

abbrev pub invariant-loop-at : goal.invariant-loop-at
invariant-loop-at l = list_all is_near_call (take l.at l.rows) ≡ true
