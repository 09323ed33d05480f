-- What is still wanted of code, by what has come.
use Rattle.std.specs.Prelude.{ℕ, List, [], ◌∷◌, ◌++◌, length}
use Rattle.vk_code.specs.declared.code.Guard.{Guard}
use Rattle.vk_code.specs.declared.instruction.Instr.{Instr}
use Rattle.vk_format.specs.declared.rules.ObjectRule.TheVariants.{O7}
use Rattle.vk_format.specs.Format.{Format}
use Rattle.vk_format.specs.Codec.{number, list, exactly_number, read_after}
use Rattle.vk_code_format.specs.declared.rows.BodyRow.{BodyRow}
use Rattle.vk_code_format.specs.declared.rows.BodyRow.TheVariants.{Inline, Number}
use Rattle.vk_code_format.specs.declared.rows.CodeRow.{CodeRow}
use Rattle.vk_code_format.specs.declared.rows.FrontRow.{FrontRow}
use Rattle.vk_code_format.specs.declared.rows.LoopRow.{LoopRow}
use Rattle.vk_code_format.specs.Codes.{Place, in_object, in_image, body, guard, instruction, instructions, loop_site}
use Rattle.vk_code_format.specs.Fields.{below, simdlen}
use Rattle.vk_code_read.specs.declared.code.CodeFeed.{CodeFeed}
use Rattle.vk_code_read.specs.declared.code.CodeStage.{CodeStage}
use Rattle.vk_code_read.specs.declared.code.CodeStage.TheVariants.{Front, LoopCount, Simdlen, Low, High, CaptureCount, Capture, GuardCount, GuardFirst, GuardSecond, BodyNumber, BodyFront, BodyLoops, BodyInstrCount, BodyInstr, InstrCount, Instr as OneInstr, Done}
use Rattle.vk_code_read.specs.Inner.Left.{Behind, front_left, front_width, place_of}

-- ---- instructions

abbrev pub code_row : FrontRow → List LoopRow → List Instr → CodeRow
code_row f ls is = record { routine = record { front = f; instrs = is }; loops = ls }

abbrev pub after_instrs : {R : Type 0} → FrontRow → List LoopRow → Behind CodeRow R → Behind (List Instr) R
after_instrs f ls next is at = next (code_row f ls is) at

abbrev pub from_instrs : {R : Type 0} → FrontRow → List LoopRow → ℕ → Behind CodeRow R → Format R
from_instrs f ls at next = instructions.read at (after_instrs f ls next)

-- ---- loops

abbrev pub after_loops : {R : Type 0} → FrontRow → Behind CodeRow R → Behind (List LoopRow) R
after_loops f next ls at = from_instrs f ls at next

abbrev pub from_loops : {R : Type 0} → Place → FrontRow → ℕ → Behind CodeRow R → Format R
from_loops place f at next = (list (number 2) (loop_site place)).read at (after_loops f next)

-- a loop, with so many after it
abbrev pub after_loop : {R : Type 0} → Place → FrontRow → List LoopRow → ℕ → Behind CodeRow R → Behind LoopRow R
after_loop place f ls left next l at = read_after (λ before. loop_site place) left (ls ++ l ∷ []) at (after_loops f next)

abbrev pub after_body : {R : Type 0} → LoopRow → Behind LoopRow R → Behind BodyRow R
after_body l next b at = next (record l { body = b }) at

abbrev pub from_body : {R : Type 0} → Place → LoopRow → ℕ → Behind LoopRow R → Format R
from_body place l at next = (body place (length l.captures)).read at (after_body l next)

abbrev pub after_guards : {R : Type 0} → Place → LoopRow → Behind LoopRow R → Behind (List Guard) R
after_guards place l next gs at = from_body place (record l { guards = gs }) at next

abbrev pub from_guards : {R : Type 0} → Place → LoopRow → ℕ → Behind LoopRow R → Format R
from_guards place l at next = (list (number 2) guard).read at (after_guards place l next)

abbrev pub after_captures : {R : Type 0} → Place → LoopRow → Behind LoopRow R → Behind (List ℕ) R
after_captures place l next cs at = from_guards place (record l { captures = cs }) at next

abbrev pub from_captures : {R : Type 0} → Place → LoopRow → ℕ → Behind LoopRow R → Format R
from_captures place l at next = (list (number 2) (number 2)).read at (after_captures place l next)

abbrev pub from_high : {R : Type 0} → Place → LoopRow → ℕ → Behind LoopRow R → Format R
from_high place l at next = (number 2).read at (λ high end. from_captures place (record l { high = high }) end next)

abbrev pub from_low : {R : Type 0} → Place → LoopRow → ℕ → Behind LoopRow R → Format R
from_low place l at next = (number 2).read at (λ low end. from_high place (record l { low = low }) end next)

abbrev pub from_simdlen : {R : Type 0} → Place → LoopRow → ℕ → Behind LoopRow R → Format R
from_simdlen place l at next = simdlen.read at (λ s end. from_low place (record l { simdlen = s }) end next)

-- a guard, with so many after it
abbrev pub after_guard : {R : Type 0} → List Guard → ℕ → Behind (List Guard) R → Behind Guard R
after_guard before left next g at = read_after (λ b. guard) left (before ++ g ∷ []) at next

abbrev pub from_second : {R : Type 0} → ℕ → ℕ → Behind Guard R → Format R
from_second first at next = (number 2).read at (λ second end. next (record { first = first; second = second }) end)

abbrev pub from_first : {R : Type 0} → ℕ → Behind Guard R → Format R
from_first at next = (number 2).read at (λ first end. from_second first end next)

-- ---- the body of a loop in an object

abbrev pub after_body_instrs : {R : Type 0} → FrontRow → Behind BodyRow R → Behind (List Instr) R
after_body_instrs f next is at = next (Inline (record { front = f; instrs = is })) at

abbrev pub from_body_instrs : {R : Type 0} → FrontRow → ℕ → Behind BodyRow R → Format R
from_body_instrs f at next = instructions.read at (after_body_instrs f next)

abbrev pub from_body_loops : {R : Type 0} → FrontRow → ℕ → Behind BodyRow R → Format R
from_body_loops f at next = (exactly_number O7 2 0).read at (λ u end. from_body_instrs f end next)

abbrev pub after_body_front : {R : Type 0} → Behind BodyRow R → Behind FrontRow R
after_body_front next f at = from_body_loops f at next

abbrev pub from_number : {R : Type 0} → ℕ → ℕ → Behind BodyRow R → Format R
from_number codes at next = (below codes).read at (λ n end. next (Number n) end)

-- ---- by the stage

abbrev pub codes_in : Place → ℕ
codes_in (in_object functions params) = 0
codes_in (in_image codes) = codes

abbrev pub body_next : {R : Type 0} → CodeFeed → ℕ → Behind CodeRow R → Behind BodyRow R
body_next c left next = after_body c.site (after_loop (place_of c.place) c.front.front c.loops left next)

abbrev pub code_left_at : {R : Type 0} → CodeStage → CodeFeed → ℕ → Behind CodeRow R → Format R
code_left_at Front c at next = front_left c.front at (λ f end. from_loops (place_of c.place) f end next)
code_left_at LoopCount c at next = from_loops (place_of c.place) c.front.front at next
code_left_at (Simdlen left) c at next = from_simdlen (place_of c.place) c.site at (after_loop (place_of c.place) c.front.front c.loops left next)
code_left_at (Low left) c at next = from_low (place_of c.place) c.site at (after_loop (place_of c.place) c.front.front c.loops left next)
code_left_at (High left) c at next = from_high (place_of c.place) c.site at (after_loop (place_of c.place) c.front.front c.loops left next)
code_left_at (CaptureCount left) c at next = from_captures (place_of c.place) c.site at (after_loop (place_of c.place) c.front.front c.loops left next)
code_left_at (Capture left more) c at next = (number 2).read at (λ n end. read_after (λ b. number 2) more (c.site.captures ++ n ∷ []) end (after_captures (place_of c.place) c.site (after_loop (place_of c.place) c.front.front c.loops left next)))
code_left_at (GuardCount left) c at next = from_guards (place_of c.place) c.site at (after_loop (place_of c.place) c.front.front c.loops left next)
code_left_at (GuardFirst left more) c at next = from_first at (after_guard c.site.guards more (after_guards (place_of c.place) c.site (after_loop (place_of c.place) c.front.front c.loops left next)))
code_left_at (GuardSecond left more first) c at next = from_second first at (after_guard c.site.guards more (after_guards (place_of c.place) c.site (after_loop (place_of c.place) c.front.front c.loops left next)))
code_left_at (BodyNumber left) c at next = from_number (codes_in (place_of c.place)) at (body_next c left next)
code_left_at (BodyFront left) c at next = front_left c.body at (after_body_front (body_next c left next))
code_left_at (BodyLoops left) c at next = from_body_loops c.body.front at (body_next c left next)
code_left_at (BodyInstrCount left) c at next = from_body_instrs c.body.front at (body_next c left next)
code_left_at (BodyInstr left more) c at next = instruction.read at (λ i end. read_after (λ b. instruction) more (c.instrs ++ i ∷ []) end (after_body_instrs c.body.front (body_next c left next)))
code_left_at InstrCount c at next = from_instrs c.front.front c.loops at next
code_left_at (OneInstr more) c at next = instruction.read at (λ i end. read_after (λ b. instruction) more (c.instrs ++ i ∷ []) end (after_instrs c.front.front c.loops next))
code_left_at Done c at next = next (code_row c.front.front c.loops c.instrs) at

abbrev pub code_left : {R : Type 0} → CodeFeed → ℕ → Behind CodeRow R → Format R
code_left c at next = code_left_at c.stage c at next

-- the bytes of the field that comes next
abbrev pub code_width : CodeFeed → ℕ
code_width c = width_at c.stage c
  where
    width_at : CodeStage → CodeFeed → ℕ
    width_at Front c = front_width c.front.place c.front.stage
    width_at LoopCount c = 2
    width_at (Simdlen left) c = 2
    width_at (Low left) c = 2
    width_at (High left) c = 2
    width_at (CaptureCount left) c = 2
    width_at (Capture left more) c = 2
    width_at (GuardCount left) c = 2
    width_at (GuardFirst left more) c = 2
    width_at (GuardSecond left more first) c = 2
    width_at (BodyNumber left) c = 4
    width_at (BodyFront left) c = front_width c.body.place c.body.stage
    width_at (BodyLoops left) c = 2
    width_at (BodyInstrCount left) c = 4
    width_at (BodyInstr left more) c = 16
    width_at InstrCount c = 4
    width_at (OneInstr more) c = 16
    width_at Done c = 0
