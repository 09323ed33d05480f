-- What rows of code stand for, and the rows of code.
use Rattle.std.specs.Prelude.{ℕ, nat_lt, min, Bool, true, List, ◌∷◌, ◌++◌, length, map, Option, Some, None}
use Rattle.std.specs.List.{list_all}
use Rattle.vk_code.specs.declared.code.Shape.{Shape}
use Rattle.vk_code.specs.declared.code.Shape.TheVariants as shape
use Rattle.vk_code.specs.declared.code.SlotArg.{SlotArg}
use Rattle.vk_code.specs.Listing.{CallSite, Listing, LoopBody, own, numbered, Routine, SimdSite}
use Rattle.vk_code.specs.Tests.{first_bad}
use Rattle.vk_code.specs.Valid.{Environment, fault_of}
use Rattle.vk_code_format.specs.declared.rows.ShapeKind.{ShapeKind}
use Rattle.vk_code_format.specs.declared.rows.ShapeKind.TheVariants.{Vector, Uniform, By, Along, Literal, Same}
use Rattle.vk_code_format.specs.declared.rows.ArgRow.{ArgRow}
use Rattle.vk_code_format.specs.declared.rows.SlotRow.{SlotRow}
use Rattle.vk_code_format.specs.declared.rows.RoutineRow.{RoutineRow}
use Rattle.vk_code_format.specs.declared.rows.BodyRow.{BodyRow}
use Rattle.vk_code_format.specs.declared.rows.BodyRow.TheVariants.{Inline, Number}
use Rattle.vk_code_format.specs.declared.rows.LoopRow.{LoopRow}
use Rattle.vk_code_format.specs.declared.rows.CodeRow.{CodeRow}
use Rattle.vk_code_format.specs.Parameters.{signed, signed_bits}

-- ---- what rows stand for

abbrev pub shape_of : ShapeKind → ℕ → Shape
shape_of Vector value = shape.Vector
shape_of Uniform value = shape.Uniform
shape_of By value = shape.By (signed value)
shape_of Along value = shape.Along value
shape_of Literal value = shape.Literal (signed value)
shape_of Same value = shape.Same value

abbrev pub arg_of : ArgRow → SlotArg
arg_of a = record { reg = a.reg; shape = shape_of a.kind a.value }

abbrev pub call_of : SlotRow → CallSite
call_of s = record { function = s.function; always = s.always; result = s.result; args = map arg_of s.args }

-- with so many simd loops
abbrev pub routine_of : RoutineRow → ℕ → Routine
routine_of c loops = record {
  lane_code = c.front.lane_code;
  params = c.front.params;
  result = c.front.result;
  regs = c.front.regs;
  masks = c.front.masks;
  slots = map call_of c.front.slots;
  loops = loops;
  instrs = c.instrs;
}

abbrev pub body_of : BodyRow → LoopBody
body_of (Inline r) = own (routine_of r 0)
body_of (Number n) = numbered n

abbrev pub site_of : LoopRow → SimdSite
site_of l = record { simdlen = l.simdlen; low = l.low; high = l.high; captures = l.captures; guards = l.guards; body = body_of l.body }

abbrev pub listing_of : CodeRow → Listing
listing_of c = record { routine = routine_of c.routine (length c.loops); loops = map site_of c.loops }

-- ---- the rows of code

abbrev pub arg_row : SlotArg → ArgRow
arg_row a = shape_row a.reg a.shape
  where
    shape_row : ℕ → Shape → ArgRow
    shape_row reg shape.Vector = record { reg = reg; kind = Vector; value = 0 }
    shape_row reg shape.Uniform = record { reg = reg; kind = Uniform; value = 0 }
    shape_row reg (shape.By n) = record { reg = reg; kind = By; value = signed_bits n }
    shape_row reg (shape.Along p) = record { reg = reg; kind = Along; value = p }
    shape_row reg (shape.Literal n) = record { reg = reg; kind = Literal; value = signed_bits n }
    shape_row reg (shape.Same p) = record { reg = reg; kind = Same; value = p }

abbrev pub slot_row : CallSite → SlotRow
slot_row s = record { function = s.function; always = s.always; result = s.result; args = map arg_row s.args }

abbrev pub routine_row : Routine → RoutineRow
routine_row c = record {
  front = record { lane_code = c.lane_code; result = c.result; params = c.params; regs = c.regs; masks = c.masks; slots = map slot_row c.slots };
  instrs = c.instrs;
}

abbrev pub body_row : LoopBody → BodyRow
body_row (own r) = Inline (routine_row r)
body_row (numbered n) = Number n

abbrev pub loop_row : SimdSite → LoopRow
loop_row l = record { simdlen = l.simdlen; low = l.low; high = l.high; captures = l.captures; guards = l.guards; body = body_row l.body }

abbrev pub code_row : Listing → CodeRow
code_row c = record { routine = routine_row c.routine; loops = map loop_row c.loops }

-- ---- which code is valid

-- a call names parameters by one byte
abbrev pub has_place : SlotArg → Bool
has_place a = is_place a.shape
  where
    is_place : Shape → Bool
    is_place shape.Vector = true
    is_place shape.Uniform = true
    is_place (shape.By n) = true
    is_place (shape.Along p) = nat_lt p 256
    is_place (shape.Literal n) = true
    is_place (shape.Same p) = nat_lt p 256

abbrev pub has_places : CallSite → Bool
has_places s = list_all has_place s.args

abbrev pub body_has_places : LoopBody → Bool
body_has_places (own r) = list_all has_places r.slots
body_has_places (numbered n) = true

-- of each part up to the instructions, as for 'valid code'
abbrev pub places_verdicts : Listing → List Bool
places_verdicts c = true ∷ (map has_places c.routine.slots ++ map (λ l. body_has_places l.body) c.loops)

abbrev pub earlier : Option ℕ → Option ℕ → Option ℕ
earlier None o = o
earlier (Some m) None = Some m
earlier (Some m) (Some n) = Some (min m n)

-- the first part of code that is not valid among these names
abbrev pub bad_part : Environment → Listing → Option ℕ
bad_part names c = earlier (first_bad (places_verdicts c)) (fault_of names c)
