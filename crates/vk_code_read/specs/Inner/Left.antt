-- What is still wanted of code up to its calls, by what has come.
use Rattle.std.specs.Prelude.{◌≡◌, ℕ, List, [], ◌∷◌, ◌++◌, Result, Ok, Err}
use Rattle.vk_kinds.specs.declared.heads.CType.{CType}
use Rattle.vk_format.specs.declared.rules.ObjectFail.{ObjectFail}
use Rattle.vk_format.specs.declared.rules.ObjectFail.TheVariants as fails
use Rattle.vk_format.specs.declared.rules.ObjectRule.TheVariants.{O7}
use Rattle.vk_format.specs.Format.{Format, Field, Refused, Whole}
use Rattle.vk_format.specs.Codec.{number, judged, list, repeated, read_after}
use Rattle.vk_code_format.specs.declared.rows.ArgRow.{ArgRow}
use Rattle.vk_code_format.specs.declared.rows.FrontRow.{FrontRow}
use Rattle.vk_code_format.specs.declared.rows.ShapeKind.{ShapeKind}
use Rattle.vk_code_format.specs.declared.rows.SlotRow.{SlotRow}
use Rattle.vk_code_format.specs.Codes.{Place, in_object, in_image, argument, has_value, parameter_count, shape_kinds, shape_number, slot}
use Rattle.vk_code_format.specs.Fields.{below, coded, flag, register_or_none, value_type}
use Rattle.vk_code_read.specs.declared.front.CodePlace.{CodePlace}
use Rattle.vk_code_read.specs.declared.front.CodePlace.TheVariants.{Object, Image}
use Rattle.vk_code_read.specs.declared.front.FrontFeed.{FrontFeed}
use Rattle.vk_code_read.specs.declared.front.FrontStage.{FrontStage}
use Rattle.vk_code_read.specs.declared.front.FrontStage.TheVariants.{Lane, Result as ResultOf, Params, RegCount, Reg, Masks, SlotCount, SlotStart, ArgCount, Always, SlotResult, ArgReg, ArgKind, ArgValue, Done}

-- ---- one step

-- what is wanted after a field
abbrev pub taken : {R : Type 0} → Format R → List ℕ → Format R
taken (Field width next) bytes = next bytes
taken (Refused at rule) bytes = Refused at rule
taken (Whole a) bytes = Whole a

-- it does not go on: what is wanted is a refusal, or memory ran out
abbrev pub Fails : {R : Type 0} → ObjectFail → Format R → Type 0
Fails (fails.Fault e) wanted = wanted ≡ Refused e.at e.rule
Fails fails.Memory wanted = Unit {0}

-- the field was taken, and this is wanted now; or it is refused
abbrev pub Stepped : {R T : Type 0} → Format R → List ℕ → Result T ObjectFail → Format R → Type 0
Stepped old bytes (Ok u) new = taken old bytes ≡ new
Stepped old bytes (Err e) new = Fails e (taken old bytes)

-- unless memory ran out, this is wanted
abbrev pub IsWanted : {R T : Type 0} → Result T ObjectFail → Format R → Format R → Type 0
IsWanted (Ok u) new wanted = new ≡ wanted
IsWanted (Err (fails.Fault e)) new wanted = ⊥
IsWanted (Err fails.Memory) new wanted = Unit {0}

-- ---- where code stands

abbrev pub place_of : CodePlace → Place
place_of (Object functions params) = in_object functions params
place_of (Image codes) = in_image codes

-- what is wanted behind a value
abbrev pub Behind : Type 0 → Type 0 → Type 0
Behind A R = A → ℕ → Format R

-- ---- the fields behind those that have come

abbrev pub after_slots : {R : Type 0} → FrontRow → Behind FrontRow R → Behind (List SlotRow) R
after_slots c next slots at = next (record c { slots = slots }) at

abbrev pub from_slots : {R : Type 0} → Place → FrontRow → ℕ → Behind FrontRow R → Format R
from_slots place c at next = (list (number 2) (slot place)).read at (after_slots c next)

abbrev pub from_masks : {R : Type 0} → Place → FrontRow → ℕ → Behind FrontRow R → Format R
from_masks place c at next = (number 2).read at (λ masks end. from_slots place (record c { masks = masks }) end next)

abbrev pub after_regs : {R : Type 0} → Place → FrontRow → Behind FrontRow R → Behind (List CType) R
after_regs place c next regs at = from_masks place (record c { regs = regs }) at next

abbrev pub from_regs : {R : Type 0} → Place → FrontRow → ℕ → Behind FrontRow R → Format R
from_regs place c at next = (list (number 2) value_type).read at (after_regs place c next)

abbrev pub from_params : {R : Type 0} → Place → FrontRow → ℕ → Behind FrontRow R → Format R
from_params place c at next = (parameter_count place).read at (λ params end. from_regs place (record c { params = params }) end next)

-- in an image, where it is a field
abbrev pub from_params_field : {R : Type 0} → Place → FrontRow → ℕ → Behind FrontRow R → Format R
from_params_field place c at next = (number 2).read at (λ params end. from_regs place (record c { params = params }) end next)

abbrev pub from_result : {R : Type 0} → Place → FrontRow → ℕ → Behind FrontRow R → Format R
from_result place c at next = register_or_none.read at (λ result end. from_params place (record c { result = result }) end next)

abbrev pub from_lane : {R : Type 0} → Place → FrontRow → ℕ → Behind FrontRow R → Format R
from_lane place c at next = flag.read at (λ lane end. from_result place (record c { lane_code = lane }) end next)

-- ---- a call, with so many after it

abbrev pub after_slot : {R : Type 0} → Place → FrontRow → ℕ → Behind FrontRow R → Behind SlotRow R
after_slot place c left next s at = read_after (λ before. slot place) left (c.slots ++ s ∷ []) at (after_slots c next)

abbrev pub after_args : {R : Type 0} → Place → FrontRow → ℕ → SlotRow → Behind FrontRow R → Behind (List ArgRow) R
after_args place c left s next args at = after_slot place c left next (record s { args = args }) at

abbrev pub from_slot_result : {R : Type 0} → Place → FrontRow → ℕ → SlotRow → ℕ → ℕ → Behind FrontRow R → Format R
from_slot_result place c left s count at next =
    register_or_none.read at (λ result end. (repeated count argument).read end (after_args place c left (record s { result = result }) next))

abbrev pub from_always : {R : Type 0} → Place → FrontRow → ℕ → SlotRow → ℕ → ℕ → Behind FrontRow R → Format R
from_always place c left s count at next =
    flag.read at (λ always end. from_slot_result place c left (record s { always = always }) count end next)

abbrev pub from_arg_count : {R : Type 0} → Place → FrontRow → ℕ → SlotRow → ℕ → Behind FrontRow R → Format R
from_arg_count place c left s at next = (number 1).read at (λ count end. from_always place c left s count end next)

abbrev pub from_start : {R : Type 0} → Place → FrontRow → ℕ → SlotRow → ℕ → Behind FrontRow R → Format R
from_start (in_object functions params) c left s at next = (below functions).read at (λ function end. from_arg_count (in_object functions params) c left (record s { function = function }) end next)
from_start (in_image codes) c left s at next = (number 1).read at (λ count end. from_always (in_image codes) c left (record s { function = count }) count end next)

-- ---- an argument, with so many after it

abbrev pub after_arg : {R : Type 0} → List ArgRow → ℕ → Behind (List ArgRow) R → Behind ArgRow R
after_arg before left next a at = read_after (λ b. argument) left (before ++ a ∷ []) at next

abbrev pub from_value : {R : Type 0} → ℕ → ShapeKind → ℕ → Behind ArgRow R → Format R
from_value reg kind at next = (judged O7 (has_value kind) (number 4)).read at (λ value end. next (record { reg = reg; kind = kind; value = value }) end)

abbrev pub from_kind : {R : Type 0} → ℕ → ℕ → Behind ArgRow R → Format R
from_kind reg at next = (coded O7 shape_kinds shape_number).read at (λ kind end. from_value reg kind end next)

abbrev pub from_reg : {R : Type 0} → ℕ → Behind ArgRow R → Format R
from_reg at next = (number 2).read at (λ reg end. from_kind reg end next)

-- ---- by the stage

abbrev pub left_at : {R : Type 0} → FrontStage → Place → FrontRow → SlotRow → ℕ → Behind FrontRow R → Format R
left_at Lane p c s at next = from_lane p c at next
left_at ResultOf p c s at next = from_result p c at next
left_at Params p c s at next = from_params_field p c at next
left_at RegCount p c s at next = from_regs p c at next
left_at (Reg left) p c s at next = value_type.read at (λ t end. read_after (λ before. value_type) left (c.regs ++ t ∷ []) end (after_regs p c next))
left_at Masks p c s at next = from_masks p c at next
left_at SlotCount p c s at next = from_slots p c at next
left_at (SlotStart left) p c s at next = from_start p c left s at next
left_at (ArgCount left) p c s at next = from_arg_count p c left s at next
left_at (Always left count) p c s at next = from_always p c left s count at next
left_at (SlotResult left count) p c s at next = from_slot_result p c left s count at next
left_at (ArgReg left args) p c s at next = from_reg at (after_arg s.args args (after_args p c left s next))
left_at (ArgKind left args reg) p c s at next = from_kind reg at (after_arg s.args args (after_args p c left s next))
left_at (ArgValue left args reg kind) p c s at next = from_value reg kind at (after_arg s.args args (after_args p c left s next))
left_at Done p c s at next = next c at

abbrev pub front_left : {R : Type 0} → FrontFeed → ℕ → Behind FrontRow R → Format R
front_left f at next = left_at f.stage (place_of f.place) f.front f.slot at next

abbrev pub start_left : {R : Type 0} → FrontFeed → ℕ → ℕ → Behind FrontRow R → Format R
start_left f left at next = from_start (place_of f.place) f.front left f.slot at next

-- the bytes of the first field of a call
abbrev pub start_width : CodePlace → ℕ
start_width (Object functions params) = 4
start_width (Image codes) = 1

-- the bytes of the field that comes next
abbrev pub front_width : CodePlace → FrontStage → ℕ
front_width p Lane = 1
front_width p ResultOf = 2
front_width p Params = 2
front_width p RegCount = 2
front_width p (Reg left) = 1
front_width p Masks = 2
front_width p SlotCount = 2
front_width p (SlotStart left) = start_width p
front_width p (ArgCount left) = 1
front_width p (Always left count) = 1
front_width p (SlotResult left count) = 2
front_width p (ArgReg left args) = 2
front_width p (ArgKind left args reg) = 1
front_width p (ArgValue left args reg kind) = 4
front_width p Done = 0
