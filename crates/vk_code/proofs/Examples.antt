-- Small codes in which each sentence on valid code is broken once, with the number of the part that breaks it.
use Rattle.std.proofs.Common.{◌≡◌, ℕ, zero, suc, ◌+◌, ◌-◌, ◌*◌, ◌^◌, true, false, List, [], ◌∷◌, Option, Some, None, slice_set, refl}
use Rattle.vk_types.specs.declared.types.Ty.TheVariants.{I8, I32, I64, U8, U32}
use Rattle.vk_kinds.specs.declared.heads.CType.TheVariants.{Void, Int, Ptr}
use Rattle.vk_code.specs.declared.code.SlotArg.{SlotArg}
use Rattle.vk_code.specs.declared.code.Shape.{Shape}
use Rattle.vk_code.specs.declared.code.Shape.TheVariants.{Vector, Along, Same}
use Rattle.vk_code.specs.declared.instruction.Instr.{Instr}
use Rattle.vk_code.specs.Listing.{CallSite, LoopBody, own, numbered, Routine, SimdSite}
use Rattle.vk_code.specs.Valid.{Environment, fault_of}

-- ---- a valid code

-- `int f(int)` with directives and `void g(int)` without; `const int` and `int`
abbrev names : Environment
names = record {
  image = false;
  callees = (record { params = Int I32 ∷ []; result = Int I32; simd = true }) ∷ (record { params = Int I32 ∷ []; result = Void; simd = false }) ∷ [];
  objects = (record { ty = I32; fixed = true }) ∷ (record { ty = I32; fixed = false }) ∷ [];
}

abbrev instr : ℕ → ℕ → ℕ → ℕ → ℕ → ℕ → Instr
instr op ty m d a imm = record { op = op; ty = ty; m = m; d = d; a = a; imm = imm }

-- the immediate with field x alone
abbrev x : ℕ → ℕ
x n = n * 2 ^ 32

abbrev call : ℕ → Option ℕ → List SlotArg → CallSite
call function result args = record { function = function; always = true; result = result; args = args }

abbrev arg : ℕ → Shape → SlotArg
arg reg shape = record { reg = reg; shape = shape }

abbrev body : Routine
body = record {
  lane_code = true;
  params = 2;
  result = None;
  regs = Int I64 ∷ Ptr I32 true ∷ [];
  masks = 1;
  slots = [];
  loops = 0;
  instrs = instr 6 0 0 0 0 0 ∷ [];
}

abbrev site : SimdSite
site = record {
  simdlen = Some 4;
  low = 2;
  high = 2;
  captures = 3 ∷ [];
  guards = (record { first = 3; second = 4 }) ∷ [];
  body = own body;
}

abbrev routine : Routine
routine = record {
  lane_code = false;
  params = 2;
  result = Some 0;
  masks = 3;
  loops = 1;
  regs = Int I32 ∷ Int I32 ∷ Int I64 ∷ Ptr I32 true ∷ Ptr I32 false ∷ Int U8 ∷ Int U32 ∷ Ptr I8 false ∷ [];
  slots = call 0 (Some 0) (arg 1 Vector ∷ []) ∷ call 1 None (arg 0 (Same 1) ∷ []) ∷ [];
  instrs =
      instr 0 2 0 0 0 (2 ^ 64 - 3)
      ∷ instr 1 0 0 4 3 0
      ∷ instr 2 0 0 5 2 0
      ∷ instr 3 2 0 0 0 (1 + x 3)
      ∷ instr 3 6 0 6 6 (2 + x 8)
      ∷ instr 4 2 0 1 0 (1 + x 2)
      ∷ instr 5 3 0 2 2 (x 1)
      ∷ instr 6 0 0 2 0 0
      ∷ instr 7 0 0 0 4 0
      ∷ instr 8 0 0 0 3 1
      ∷ instr 9 0 0 3 3 5
      ∷ instr 10 0 0 4 0 0
      ∷ instr 10 0 0 3 0 (x 1)
      ∷ instr 11 0 0 1 5 0
      ∷ instr 12 0 0 2 1 0
      ∷ instr 15 0 1 0 0 (x 3)
      ∷ instr 15 0 2 0 0 (x 1)
      ∷ instr 14 0 0 2 2 1
      ∷ instr 13 0 0 1 2 2
      ∷ instr 16 0 0 0 0 0
      ∷ instr 17 0 0 0 2 0
      ∷ instr 18 0 0 0 0 0
      ∷ [];
}

-- the first fault of code whose routine and loop are these: part 0 is the head, 1 and 2 are slots, 3 is the loop
abbrev fault : Routine → SimdSite → Option ℕ
fault r s = fault_of names (record { routine = r; loops = s ∷ [] })

valid : fault routine site ≡ None
valid = refl

-- with another instruction at place n
abbrev with : ℕ → Instr → Option ℕ
with n i = fault (record routine { instrs = slice_set routine.instrs n i }) site

-- with another first slot
abbrev calling : CallSite → Option ℕ
calling s = fault (record routine { slots = slice_set routine.slots 0 s }) site

-- with another body
abbrev running : Routine → Option ℕ
running b = fault routine (record site { body = own b })

-- ---- the head

no_mask : fault (record routine { masks = 0 }) site ≡ Some 0
no_mask = refl

cells_8192 : fault (record routine { masks = 8184 }) site ≡ None
cells_8192 = refl

cells_8193 : fault (record routine { masks = 8185 }) site ≡ Some 0
cells_8193 = refl

parameters_past_registers : fault (record routine { params = 9 }) site ≡ Some 0
parameters_past_registers = refl

result_past_registers : fault (record routine { result = Some 8 }) site ≡ Some 0
result_past_registers = refl

register_without_type : fault (record routine { regs = slice_set routine.regs 7 Void }) site ≡ Some 0
register_without_type = refl

-- ---- slots

argument_past_registers : calling (call 0 (Some 0) (arg 8 Vector ∷ [])) ≡ Some 1
argument_past_registers = refl

argument_of_another_type : calling (call 0 (Some 0) (arg 2 Vector ∷ [])) ≡ Some 1
argument_of_another_type = refl

argument_missing : calling (call 0 (Some 0) []) ≡ Some 1
argument_missing = refl

argument_too_many : calling (call 0 (Some 0) (arg 1 Vector ∷ arg 1 Vector ∷ [])) ≡ Some 1
argument_too_many = refl

result_of_another_type : calling (call 0 (Some 2) (arg 1 Vector ∷ [])) ≡ Some 1
result_of_another_type = refl

result_past : calling (call 0 (Some 8) (arg 1 Vector ∷ [])) ≡ Some 1
result_past = refl

result_left_out : calling (call 0 None (arg 1 Vector ∷ [])) ≡ Some 1
result_left_out = refl

result_of_void : calling (call 1 (Some 0) (arg 1 Vector ∷ [])) ≡ Some 1
result_of_void = refl

no_function : calling (call 2 None (arg 1 Vector ∷ [])) ≡ Some 1
no_function = refl

along_no_parameter : calling (call 0 (Some 0) (arg 1 (Along 2) ∷ [])) ≡ Some 1
along_no_parameter = refl

same_as_no_parameter : calling (call 0 (Some 0) (arg 1 (Same 2) ∷ [])) ≡ Some 1
same_as_no_parameter = refl

-- the second slot calls a function without directives
lane_code_calls : fault (record routine { lane_code = true }) site ≡ Some 2
lane_code_calls = refl

-- an image's slot tells its number of arguments, and its loop a number of a code
abbrev image_fault : ℕ → LoopBody → Option ℕ
image_fault arguments b = fault_of (record names { image = true; callees = [] }) (record {
  routine = record routine { slots = call arguments (Some 0) (arg 1 Vector ∷ []) ∷ [] };
  loops = record site { body = b } ∷ [];
})

image_code : image_fault 1 (numbered 0) ≡ None
image_code = refl

image_arguments : image_fault 2 (numbered 0) ≡ Some 1
image_arguments = refl

image_body : image_fault 1 (own body) ≡ Some 2
image_body = refl

-- ---- loops

lane_code_loops : fault (record routine { lane_code = true; slots = [] }) site ≡ Some 1
lane_code_loops = refl

lanes_of_3 : fault routine (record site { simdlen = Some 3 }) ≡ Some 3
lanes_of_3 = refl

lanes_of_512 : fault routine (record site { simdlen = Some 512 }) ≡ Some 3
lanes_of_512 = refl

low_of_a_byte : fault routine (record site { low = 5; high = 5 }) ≡ Some 3
low_of_a_byte = refl

high_of_another_type : fault routine (record site { high = 0 }) ≡ Some 3
high_of_another_type = refl

capture_past_registers : fault routine (record site { captures = 8 ∷ [] }) ≡ Some 3
capture_past_registers = refl

capture_of_another_type : fault routine (record site { captures = 4 ∷ [] }) ≡ Some 3
capture_of_another_type = refl

guard_of_an_integer : fault routine (record site { guards = (record { first = 3; second = 0 }) ∷ [] }) ≡ Some 3
guard_of_an_integer = refl

body_of_an_image : fault routine (record site { body = numbered 0 }) ≡ Some 3
body_of_an_image = refl

body_of_ordinary_code : running (record body { lane_code = false }) ≡ Some 3
body_of_ordinary_code = refl

body_with_result : running (record body { result = Some 0 }) ≡ Some 3
body_with_result = refl

body_with_loops : running (record body { loops = 1 }) ≡ Some 3
body_with_loops = refl

body_parameter_missing : running (record body { params = 1 }) ≡ Some 3
body_parameter_missing = refl

body_not_valid : running (record body { instrs = instr 6 0 0 1 0 0 ∷ [] }) ≡ Some 3
body_not_valid = refl

-- ---- instructions, of which the first is part 4

constant_above_its_type : with 0 (instr 0 2 0 0 0 (2 ^ 31)) ≡ Some 4
constant_above_its_type = refl

constant_at_another_type : with 0 (instr 0 3 0 0 0 1) ≡ Some 4
constant_at_another_type = refl

constant_with_an_operand : with 0 (instr 0 2 0 0 1 1) ≡ Some 4
constant_with_an_operand = refl

type_not_used : with 1 (instr 1 1 0 4 3 0) ≡ Some 5
type_not_used = refl

copy_makes_written : with 1 (instr 1 0 0 3 4 0) ≡ Some 5
copy_makes_written = refl

convert_to_a_pointer : with 2 (instr 2 0 0 3 2 0) ≡ Some 6
convert_to_a_pointer = refl

no_operator_10 : with 3 (instr 3 2 0 0 0 (1 + x 10)) ≡ Some 7
no_operator_10 = refl

field_c_used : with 3 (instr 3 2 0 0 0 (1 + 2 ^ 16 + x 3)) ≡ Some 7
field_c_used = refl

type_not_promoted : with 3 (instr 3 4 0 5 5 5) ≡ Some 7
type_not_promoted = refl

operand_of_another_type : with 3 (instr 3 2 0 0 0 (2 + x 3)) ≡ Some 7
operand_of_another_type = refl

shift_by_a_pointer : with 4 (instr 3 6 0 6 6 (3 + x 8)) ≡ Some 8
shift_by_a_pointer = refl

no_comparison_4 : with 5 (instr 4 2 0 1 0 (1 + x 4)) ≡ Some 9
no_comparison_4 = refl

comparison_into_long : with 5 (instr 4 2 0 2 0 (1 + x 2)) ≡ Some 9
comparison_into_long = refl

field_b_used : with 6 (instr 5 3 0 2 2 (1 + x 1)) ≡ Some 10
field_b_used = refl

lane_into_int : with 7 (instr 6 0 0 0 0 0) ≡ Some 11
lane_into_int = refl

register_past_the_end : with 7 (instr 6 0 0 8 0 0) ≡ Some 11
register_past_the_end = refl

mask_past_the_end : with 7 (instr 6 0 3 2 0 0) ≡ Some 11
mask_past_the_end = refl

load_of_another_type : with 8 (instr 7 0 0 2 4 0) ≡ Some 12
load_of_another_type = refl

load_through_an_integer : with 8 (instr 7 0 0 0 1 0) ≡ Some 12
load_through_an_integer = refl

store_through_a_read_pointer : with 9 (instr 8 0 0 0 4 1) ≡ Some 13
store_through_a_read_pointer = refl

moved_into_another_type : with 10 (instr 9 0 0 4 3 5) ≡ Some 14
moved_into_another_type = refl

address_of_a_const : with 11 (instr 10 0 0 3 0 0) ≡ Some 15
address_of_a_const = refl

no_object_2 : with 12 (instr 10 0 0 3 0 (x 2)) ≡ Some 16
no_object_2 = refl

mask_0_written : with 13 (instr 11 0 0 0 5 0) ≡ Some 17
mask_0_written = refl

mask_3_written : with 13 (instr 11 0 0 3 5 0) ≡ Some 17
mask_3_written = refl

mask_under_a_mask : with 14 (instr 12 0 1 2 1 0) ≡ Some 18
mask_under_a_mask = refl

block_past_the_code : with 15 (instr 15 0 1 0 0 (x 7)) ≡ Some 19
block_past_the_code = refl

block_past_its_block : with 16 (instr 15 0 2 0 0 (x 3)) ≡ Some 20
block_past_its_block = refl

no_slot_2 : with 19 (instr 16 0 0 0 0 (x 2)) ≡ Some 23
no_slot_2 = refl

print_of_an_int : with 20 (instr 17 0 0 0 0 0) ≡ Some 24
print_of_an_int = refl

no_loop_1 : with 21 (instr 18 0 0 0 0 (x 1)) ≡ Some 25
no_loop_1 = refl

no_instruction_19 : with 21 (instr 19 0 0 0 0 0) ≡ Some 25
no_instruction_19 = refl

-- lane code does not print, and runs no simd loop
abbrev lane_fault : Instr → Option ℕ
lane_fault i = fault_of names (record { routine = record routine { lane_code = true; loops = 0; slots = []; instrs = i ∷ [] }; loops = [] })

lane_code_prints : lane_fault (instr 17 0 0 0 2 0) ≡ Some 1
lane_code_prints = refl

lane_code_runs_a_loop : lane_fault (instr 18 0 0 0 0 0) ≡ Some 1
lane_code_runs_a_loop = refl

-- so many blocks, each in the one before
abbrev nested : ℕ → List Instr
nested zero = []
nested (suc n) = instr 15 0 0 0 0 (x n) ∷ nested n

nested_64 : fault (record routine { instrs = nested 64 }) site ≡ None
nested_64 = refl

nested_65 : fault (record routine { instrs = nested 65 }) site ≡ Some 68
nested_65 = refl
