-- How many bytes rows of code have, in sums that stay at the greatest number of 64 bits once they would pass it.
use Rattle.std.specs.Prelude.{ℕ, ◌+◌, ◌-◌, ◌*◌, ◌==◌, nat_le, min, if◌then◌else◌, List, length, take}
use Rattle.std.specs.List.{sum_by}
use Rattle.vk_code_format.specs.declared.rows.BodyRow.{BodyRow}
use Rattle.vk_code_format.specs.declared.rows.BodyRow.TheVariants.{Inline, Number}
use Rattle.vk_code_format.specs.declared.rows.CodeRow.{CodeRow}
use Rattle.vk_code_format.specs.declared.rows.FrontRow.{FrontRow}
use Rattle.vk_code_format.specs.declared.rows.LoopRow.{LoopRow}
use Rattle.vk_code_format.specs.declared.rows.RoutineRow.{RoutineRow}
use Rattle.vk_code_format.specs.declared.rows.SlotRow.{SlotRow}
use Rattle.vk_code_format.specs.Codes.{Place, in_object, in_image, loop_site, routine, slot}

abbrev pub capped : ℕ → ℕ
capped n = min n 18446744073709551615

-- ---- rows

-- a slot up to its arguments
abbrev pub slot_head : Place → ℕ
slot_head (in_object functions params) = 8
slot_head (in_image codes) = 4

-- code up to its registers' types, with the counts behind them
abbrev pub front_head : Place → ℕ
front_head (in_object functions params) = 9
front_head (in_image codes) = 11

unfoldable pub slot_size : Place → SlotRow → ℕ
slot_size place s = length ((slot {R = ℕ} place).write s)

abbrev pub slots_size : Place → List SlotRow → ℕ
slots_size place ss = sum_by (slot_size place) ss

unfoldable pub routine_size : RoutineRow → ℕ
routine_size r = length ((routine {R = ℕ} (in_object 0 0)).write r)

abbrev pub body_size : BodyRow → ℕ
body_size (Inline r) = routine_size r
body_size (Number n) = 4

unfoldable pub loop_size : Place → LoopRow → ℕ
loop_size place l = length ((loop_site {R = ℕ} place).write l)

abbrev pub loops_size : Place → List LoopRow → ℕ
loops_size place ls = sum_by (loop_size place) ls

-- ---- code

-- up to the slots
abbrev pub front_size : Place → FrontRow → ℕ
front_size place f = front_head place + length f.regs

-- up to the loops
abbrev pub before_loops : Place → CodeRow → ℕ
before_loops place c = front_size place c.routine.front + slots_size place c.routine.front.slots + 2

-- up to the instructions
abbrev pub before_instrs : Place → CodeRow → ℕ
before_instrs place c = before_loops place c + loops_size place c.loops + 4

-- up to a part
abbrev pub before_part : Place → CodeRow → ℕ → ℕ
before_part place c part =
    let slots = length c.routine.front.slots in
    let loops = length c.loops in
    if part == 0 then 0
    else (if nat_le part slots then front_size place c.routine.front + slots_size place (take (part - 1) c.routine.front.slots)
    else (if nat_le part (slots + loops) then before_loops place c + loops_size place (take (part - 1 - slots) c.loops)
    else before_instrs place c + 16 * (part - 1 - slots - loops)))
