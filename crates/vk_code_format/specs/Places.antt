-- Where the parts of code begin: how many bytes are before them.
use Rattle.std.specs.Prelude.{ℕ, ◌+◌, ◌-◌, ◌*◌, ◌==◌, nat_le, if◌then◌else◌, List, length, take}
use Rattle.std.specs.List.{sum_by}
use Rattle.vk_format.specs.Codec.{Codec}
use Rattle.vk_code_format.specs.declared.rows.CodeRow.{CodeRow}
use Rattle.vk_code_format.specs.Codes.{Place, parameter_count, slot, loop_site, code}

-- the bytes of the members
abbrev pub length_of : {A : Type 0} → Codec ℕ A → List A → ℕ
length_of c xs = sum_by (λ x. length (c.write x)) xs

abbrev pub code_length : Place → CodeRow → ℕ
code_length place c = length ((code {R = ℕ} place).write c)

-- the first slot begins behind kind, result, number of parameters, registers, masks and the count of slots
abbrev pub slots_at : Place → CodeRow → ℕ
slots_at place c = 9 + length ((parameter_count {R = ℕ} place).write c.routine.front.params) + length c.routine.front.regs

-- the first loop behind the slots and the count of loops
abbrev pub loops_at : Place → CodeRow → ℕ
loops_at place c = slots_at place c + length_of (slot place) c.routine.front.slots + 2

-- the first instruction behind the loops and the count of instructions
abbrev pub instrs_at : Place → CodeRow → ℕ
instrs_at place c = loops_at place c + length_of (loop_site place) c.loops + 4

-- part 0 is the head, then come the slots, the loops and the instructions
abbrev pub part_at : Place → CodeRow → ℕ → ℕ
part_at place c part =
    let slots = length c.routine.front.slots in
    let loops = length c.loops in
    if part == 0 then 0
    else (if nat_le part slots then slots_at place c + length_of (slot place) (take (part - 1) c.routine.front.slots)
    else (if nat_le part (slots + loops) then loops_at place c + length_of (loop_site place) (take (part - 1 - slots) c.loops)
    else instrs_at place c + 16 * (part - 1 - slots - loops)))
