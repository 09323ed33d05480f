-- The code that is made of rows: that which they stand for, but for numbers that code can't hold. Of the number of a parameter
-- its low byte is taken, and of more than 65535 parameters that many are.
use Rattle.std.specs.Prelude.{ℕ, ◌%◌, nat_lt, nat_le, min, Bool, true, ◌&&◌, List, ◌∷◌, ◌++◌, length, map}
use Rattle.std.specs.List.{list_all}
use Rattle.vk_code.specs.declared.code.Shape.{Shape}
use Rattle.vk_code.specs.declared.code.Shape.TheVariants as shape
use Rattle.vk_code.specs.declared.code.SlotArg.{SlotArg}
use Rattle.vk_code.specs.Listing.{CallSite, Listing, LoopBody, own, numbered, Routine, SimdSite}
use Rattle.vk_code_format.specs.declared.rows.ShapeKind.{ShapeKind}
use Rattle.vk_code_format.specs.declared.rows.ShapeKind.TheVariants.{Vector, Uniform, By, Along, Literal, Same}
use Rattle.vk_code_format.specs.declared.rows.ArgRow.{ArgRow}
use Rattle.vk_code_format.specs.declared.rows.SlotRow.{SlotRow}
use Rattle.vk_code_format.specs.declared.rows.RoutineRow.{RoutineRow}
use Rattle.vk_code_format.specs.declared.rows.BodyRow.{BodyRow}
use Rattle.vk_code_format.specs.declared.rows.BodyRow.TheVariants.{Inline, Number}
use Rattle.vk_code_format.specs.declared.rows.LoopRow.{LoopRow}
use Rattle.vk_code_format.specs.declared.rows.CodeRow.{CodeRow}
use Rattle.vk_code_format.specs.Parameters.{signed}

abbrev pub made_shape : ShapeKind → ℕ → Shape
made_shape Vector value = shape.Vector
made_shape Uniform value = shape.Uniform
made_shape By value = shape.By (signed value)
made_shape Along value = shape.Along (value % 256)
made_shape Literal value = shape.Literal (signed value)
made_shape Same value = shape.Same (value % 256)

abbrev pub made_arg : ArgRow → SlotArg
made_arg a = record { reg = a.reg; shape = made_shape a.kind a.value }

abbrev pub made_call : SlotRow → CallSite
made_call s = record { function = s.function; always = s.always; result = s.result; args = map made_arg s.args }

-- with so many simd loops
abbrev pub made_routine : RoutineRow → ℕ → Routine
made_routine c loops = record {
  lane_code = c.front.lane_code;
  params = min c.front.params 65535;
  result = c.front.result;
  regs = c.front.regs;
  masks = c.front.masks;
  slots = map made_call c.front.slots;
  loops = loops;
  instrs = c.instrs;
}

abbrev pub made_body : BodyRow → LoopBody
made_body (Inline r) = own (made_routine r 0)
made_body (Number n) = numbered n

abbrev pub made_site : LoopRow → SimdSite
made_site l = record { simdlen = l.simdlen; low = l.low; high = l.high; captures = l.captures; guards = l.guards; body = made_body l.body }

abbrev pub made_listing : CodeRow → Listing
made_listing c = record { routine = made_routine c.routine (length c.loops); loops = map made_site c.loops }

-- ---- which rows have numbers that code can hold

abbrev pub is_near_shape : ShapeKind → ℕ → Bool
is_near_shape Vector value = true
is_near_shape Uniform value = true
is_near_shape By value = true
is_near_shape Along value = nat_lt value 256
is_near_shape Literal value = true
is_near_shape Same value = nat_lt value 256

abbrev pub is_near_arg : ArgRow → Bool
is_near_arg a = is_near_shape a.kind a.value

abbrev pub is_near_call : SlotRow → Bool
is_near_call s = list_all is_near_arg s.args

abbrev pub has_few_params : RoutineRow → Bool
has_few_params c = nat_le c.front.params 65535

abbrev pub is_near_body : BodyRow → Bool
is_near_body (Inline r) = has_few_params r && list_all is_near_call r.front.slots
is_near_body (Number n) = true

abbrev pub is_near_loop : LoopRow → Bool
is_near_loop l = is_near_body l.body

-- of each part up to the instructions
abbrev pub near_verdicts : CodeRow → List Bool
near_verdicts c = has_few_params c.routine ∷ (map is_near_call c.routine.front.slots ++ map is_near_loop c.loops)
