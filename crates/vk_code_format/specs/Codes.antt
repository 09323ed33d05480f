-- Lane code as a table of fields, one for objects and images.
use Rattle.std.specs.Prelude.{ℕ, ◌+◌, ◌==◌, nat_le, Bool, false, ◌||◌, List, [], ◌∷◌, ◌++◌, length, drop, None}
use Rattle.byteorder.specs.Endian.{little_bytes, little_number}
use Rattle.vk_code.specs.declared.code.Guard.{Guard}
use Rattle.vk_code.specs.declared.instruction.Instr.{Instr}
use Rattle.vk_format.specs.declared.rules.ObjectRule.TheVariants.{O7}
use Rattle.vk_format.specs.Codec.{Codec, number, block, field, judged, seen, written_by, repeated, list, given, exactly_number, ◌▹◌}
use Rattle.vk_code_format.specs.declared.rows.ShapeKind.{ShapeKind}
use Rattle.vk_code_format.specs.declared.rows.ShapeKind.TheVariants.{Vector, Uniform, By, Along, Literal, Same}
use Rattle.vk_code_format.specs.declared.rows.ArgRow.{ArgRow}
use Rattle.vk_code_format.specs.declared.rows.SlotRow.{SlotRow}
use Rattle.vk_code_format.specs.declared.rows.RoutineRow.{RoutineRow}
use Rattle.vk_code_format.specs.declared.rows.FrontRow.{FrontRow}
use Rattle.vk_code_format.specs.declared.rows.BodyRow.{BodyRow}
use Rattle.vk_code_format.specs.declared.rows.BodyRow.TheVariants.{Inline, Number}
use Rattle.vk_code_format.specs.declared.rows.LoopRow.{LoopRow}
use Rattle.vk_code_format.specs.declared.rows.CodeRow.{CodeRow}
use Rattle.vk_code_format.specs.Fields.{coded, flag, below, register_or_none, simdlen, value_type}

-- where code stands: in an object of so many functions, for a function of so many parameters; or in an image of so many codes
pub data Place : Type 0 where
  in_object : (functions params : ℕ) → Place
  in_image : (codes : ℕ) → Place

-- ---- instructions: op, ty, m, d, a and 8 bytes, of which no rule speaks before all fields are complete

abbrev pub instr_of : List ℕ → Instr
instr_of bytes = record {
  op = little_number 1 bytes;
  ty = little_number 1 (drop 1 bytes);
  m = little_number 2 (drop 2 bytes);
  d = little_number 2 (drop 4 bytes);
  a = little_number 2 (drop 6 bytes);
  imm = little_number 8 (drop 8 bytes);
}

abbrev pub instr_bytes : Instr → List ℕ
instr_bytes i = little_bytes 1 i.op ++ (little_bytes 1 i.ty ++ (little_bytes 2 i.m ++ (little_bytes 2 i.d ++ (little_bytes 2 i.a ++ little_bytes 8 i.imm))))

abbrev pub instruction : {R : Type 0} → Codec R Instr
instruction = seen instr_of instr_bytes (block 16)

-- ---- slots

abbrev pub shape_kinds : List ShapeKind
shape_kinds = Vector ∷ Uniform ∷ By ∷ Along ∷ Literal ∷ Same ∷ []

abbrev pub shape_number : ShapeKind → ℕ
shape_number Vector = 0
shape_number Uniform = 1
shape_number By = 2
shape_number Along = 3
shape_number Literal = 4
shape_number Same = 5

-- the value is 0 for Vector and Uniform
abbrev pub has_value : ShapeKind → ℕ → Bool
has_value kind value = nat_le 2 (shape_number kind) || (value == 0)

abbrev pub argument : {R : Type 0} → Codec R ArgRow
argument =
    field (λ a. a.reg) (number 2) λ reg.
    field (λ a. a.kind) (coded O7 shape_kinds shape_number) λ kind.
    field (λ a. a.value) (judged O7 (has_value kind) (number 4)) λ value.
    given (record { reg = reg; kind = kind; value = value })

-- in an object a slot names its function and has a count of arguments
abbrev pub object_slot : {R : Type 0} → ℕ → Codec R SlotRow
object_slot functions =
    field (λ s. s.function) (below functions) λ function.
    field (λ s. length s.args) (number 1) λ count.
    field (λ s. s.always) flag λ always.
    field (λ s. s.result) register_or_none λ result.
    field (λ s. s.args) (repeated count argument) λ args.
    given (record { function = function; always = always; result = result; args = args })

-- in an image it has the count alone
abbrev pub image_slot : {R : Type 0} → Codec R SlotRow
image_slot =
    field (λ s. s.function) (number 1) λ count.
    field (λ s. s.always) flag λ always.
    field (λ s. s.result) register_or_none λ result.
    field (λ s. s.args) (repeated count argument) λ args.
    given (record { function = count; always = always; result = result; args = args })

abbrev pub slot : {R : Type 0} → Place → Codec R SlotRow
slot (in_object functions params) = object_slot functions
slot (in_image codes) = image_slot

-- ---- code

-- an object tells the number of parameters elsewhere
abbrev pub parameter_count : {R : Type 0} → Place → Codec R ℕ
parameter_count (in_object functions params) = given params
parameter_count (in_image codes) = number 2

abbrev pub front : {R : Type 0} → Place → Codec R FrontRow
front place =
    field (λ c. c.lane_code) flag λ lane_code.
    field (λ c. c.result) register_or_none λ result.
    field (λ c. c.params) (parameter_count place) λ params.
    field (λ c. c.regs) (list (number 2) value_type) λ regs.
    field (λ c. c.masks) (number 2) λ masks.
    field (λ c. c.slots) (list (number 2) (slot place)) λ slots.
    given (record { lane_code = lane_code; result = result; params = params; regs = regs; masks = masks; slots = slots })

abbrev pub instructions : {R : Type 0} → Codec R (List Instr)
instructions = list (number 4) instruction

-- a body has no simd loops
abbrev pub routine : {R : Type 0} → Place → Codec R RoutineRow
routine place =
    field (λ c. c.front) (front place) λ front.
    exactly_number O7 2 0 ▹
    field (λ c. c.instrs) instructions λ instrs.
    given (record { front = front; instrs = instrs })

abbrev pub guard : {R : Type 0} → Codec R Guard
guard =
    field (λ g. g.first) (number 2) λ first.
    field (λ g. g.second) (number 2) λ second.
    given (record { first = first; second = second })

-- code of nothing
abbrev pub no_routine : RoutineRow
no_routine = record { front = record { lane_code = false; result = None; params = 0; regs = []; masks = 0; slots = [] }; instrs = [] }

abbrev pub inline_of : BodyRow → RoutineRow
inline_of (Inline r) = r
inline_of (Number n) = no_routine

abbrev pub number_of : BodyRow → ℕ
number_of (Inline r) = 0
number_of (Number n) = n

abbrev pub body_bytes : BodyRow → List ℕ
body_bytes (Inline r) = (routine {R = ℕ} (in_object 0 0)).write r
body_bytes (Number n) = little_bytes 4 n

abbrev pub body_in : {R : Type 0} → Place → ℕ → Codec R BodyRow
body_in (in_object functions params) captures = seen Inline inline_of (routine (in_object functions (1 + captures)))
body_in (in_image codes) captures = seen Number number_of (below codes)

-- an object has a loop's body in it, whose parameters are the loop's variable and the captures; an image names its code
abbrev pub body : {R : Type 0} → Place → ℕ → Codec R BodyRow
body place captures = written_by body_bytes (body_in place captures)

abbrev pub loop_site : {R : Type 0} → Place → Codec R LoopRow
loop_site place =
    field (λ l. l.simdlen) simdlen λ simdlen.
    field (λ l. l.low) (number 2) λ low.
    field (λ l. l.high) (number 2) λ high.
    field (λ l. l.captures) (list (number 2) (number 2)) λ captures.
    field (λ l. l.guards) (list (number 2) guard) λ guards.
    field (λ l. l.body) (body place (length captures)) λ body.
    given (record { simdlen = simdlen; low = low; high = high; captures = captures; guards = guards; body = body })

abbrev pub code : {R : Type 0} → Place → Codec R CodeRow
code place =
    field (λ c. c.routine.front) (front place) λ front.
    field (λ c. c.loops) (list (number 2) (loop_site place)) λ loops.
    field (λ c. c.routine.instrs) instructions λ instrs.
    given (record { routine = record { front = front; instrs = instrs }; loops = loops })
