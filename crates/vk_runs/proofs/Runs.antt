-- Runs of small images, whose results the definitions compute: each instruction, lanes that are off or stop, loops, calls and simd loops.
use Rattle.std.proofs.Common.{◌≡◌, ℕ, zero, suc, ◌+◌, ◌-◌, ◌*◌, ◌^◌, ◌==◌, true, false, not, pos, List, [], ◌∷◌, Some, None, refl}
use Rattle.std.specs.Int.{int_wrap}
use Rattle.vk_types.specs.declared.types.Stop.TheVariants.{Divide, Bounds, Turns}
use Rattle.vk_types.specs.declared.types.Ty.TheVariants.{I32, I64, U8}
use Rattle.vk_kinds.specs.declared.heads.CType.{CType}
use Rattle.vk_kinds.specs.declared.heads.CType.TheVariants.{Int, Ptr}
use Rattle.vk_kinds.specs.declared.kinds.Isa.TheVariants.{B}
use Rattle.vk_kinds.specs.declared.kinds.Kind.{Kind}
use Rattle.vk_kinds.specs.declared.kinds.Kind.TheVariants.{Vector, Uniform, Linear}
use Rattle.vk_kinds.specs.declared.kinds.Param.{Param}
use Rattle.vk_kinds.specs.declared.kinds.Step.{Step}
use Rattle.vk_kinds.specs.declared.kinds.Step.TheVariants.{By, Arg}
use Rattle.vk_kinds.specs.declared.kinds.Target.TheVariants.{X86}
use Rattle.vk_code.specs.declared.code.Shape.TheVariants.{Vector as AnyShape}
use Rattle.vk_code.specs.declared.code.SlotArg.{SlotArg}
use Rattle.vk_code.specs.declared.instruction.Instr.{Instr}
use Rattle.vk_code.specs.Listing.{CallSite, Listing, numbered}
use Rattle.vk_object.specs.declared.tables.EntryKind.{EntryKind}
use Rattle.vk_object.specs.declared.tables.EntryKind.TheVariants.{Ordinary, Scalar, M, Chunk, Rest}
use Rattle.vk_object.specs.declared.tables.LoopTargets.{LoopTargets}
use Rattle.vk_object.specs.Machine.{Given, first_memory, runs}
use Rattle.vk_object.specs.Memory.{calls_of, printed}
use Rattle.vk_object.specs.Tables.{ArrayLists, EntryLists, Tables}

abbrev instr : ℕ → ℕ → ℕ → ℕ → ℕ → ℕ → Instr
instr op ty m d a imm = record { op = op; ty = ty; m = m; d = d; a = a; imm = imm }

-- the immediate with field x alone
abbrev x : ℕ → ℕ
x n = n * 2 ^ 32

-- the pattern of -n
abbrev minus : ℕ → ℕ
minus n = 2 ^ 64 - n

-- `int a[12] = {5, 6, 7}` and `int b[6]`
abbrev arrays : List ArrayLists
arrays =
    (record { text = 97 ∷ []; ty = I32; fixed = false; length = 12; elements = (record { 0 = 5 }) ∷ (record { 0 = 6 }) ∷ (record { 0 = 7 }) ∷ [] })
    ∷ (record { text = 98 ∷ []; ty = I32; fixed = false; length = 6; elements = [] }) ∷ []

abbrev image : List Listing → List EntryLists → Tables
image codes entries = record { target = X86; isa = B; vl = 0; main = None; arrays = arrays; codes = codes; entries = entries }

abbrev entry : EntryKind → ℕ → ℕ → List Param → List ℕ → List LoopTargets → EntryLists
entry kind lanes code params targets loops = record { text = 102 ∷ []; kind = kind; lanes = lanes; code = code; params = params; targets = targets; loops = loops }

abbrev four : {A : Type 0} → (ℕ → A) → List A
four f = f 0 ∷ f 1 ∷ f 2 ∷ f 3 ∷ []

-- cells 0 to 5 of an array
abbrev cells : ℕ → Given → List ℕ
cells array g = g.mem.cells array 0 ∷ g.mem.cells array 1 ∷ g.mem.cells array 2 ∷ g.mem.cells array 3 ∷ g.mem.cells array 4 ∷ g.mem.cells array 5 ∷ []

-- ---- one code in four lanes

-- registers 0 and 1 are the arguments, 2 is the result, 3 a long, 4 a pointer, 5 a byte, 6 and 7 are ints
abbrev regs : List CType
regs = Int I32 ∷ Int I32 ∷ Int I32 ∷ Int I64 ∷ Ptr I32 true ∷ Int U8 ∷ Int I32 ∷ Int I32 ∷ []

abbrev code : List CallSite → List Instr → Listing
code slots instrs = record {
  routine = record { lane_code = true; params = 2; result = Some 2; regs = regs; masks = 3; slots = slots; loops = 0; instrs = instrs };
  loops = [];
}

-- 1, 2, 3, 4 and 2, 0, 3, 0
abbrev args : ℕ → ℕ → ℕ
args zero j = j + 1
args (suc p) zero = 2
args (suc p) (suc zero) = 0
args (suc p) (suc (suc zero)) = 3
args (suc p) (suc (suc (suc j))) = 0

-- a call with lane 2 off, whose loops make at most so many turns
abbrev run_for : ℕ → List Instr → Given
run_for turns instrs =
    let i : Tables = image (code [] instrs ∷ []) (entry M 4 0 [] [] [] ∷ []) in
    runs i turns 0 (λ j. not (j == 2)) args (first_memory i)

abbrev run : List Instr → Given
run instrs = run_for 5 instrs

const_is_set : four (run (instr 0 2 0 2 0 7 ∷ [])).value ≡ 7 ∷ 7 ∷ 0 ∷ 7 ∷ []
const_is_set = refl

copy_is_made : four (run (instr 1 0 0 2 0 0 ∷ [])).value ≡ 1 ∷ 2 ∷ 0 ∷ 4 ∷ []
copy_is_made = refl

-- 300 as a byte is 44
convert_wraps : four (run (instr 0 3 0 3 0 300 ∷ instr 2 0 0 5 3 0 ∷ instr 2 0 0 2 5 0 ∷ [])).value ≡ 44 ∷ 44 ∷ 0 ∷ 44 ∷ []
unfolding int_wrap
convert_wraps = refl

difference : four (run (instr 3 2 0 2 0 (1 + x 1) ∷ [])).value ≡ minus 1 ∷ 2 ∷ 0 ∷ 4 ∷ []
unfolding int_wrap
difference = refl

-- lanes 1 and 3 divide by 0, and stop
quotient : four (run (instr 3 2 0 2 0 (1 + x 3) ∷ [])).stop ≡ None ∷ Some Divide ∷ None ∷ Some Divide ∷ []
quotient = refl

-- a lane that stopped does nothing more
stopped_lanes_stay : four (run (instr 3 2 0 2 0 (1 + x 3) ∷ instr 0 2 0 2 0 9 ∷ [])).value ≡ 9 ∷ 0 ∷ 0 ∷ 0 ∷ []
stopped_lanes_stay = refl

comparison : four (run (instr 4 2 0 2 1 (0 + x 2) ∷ [])).value ≡ 0 ∷ 1 ∷ 0 ∷ 1 ∷ []
unfolding int_wrap
comparison = refl

negation : four (run (instr 5 2 0 2 0 0 ∷ [])).value ≡ minus 1 ∷ minus 2 ∷ 0 ∷ minus 4 ∷ []
unfolding int_wrap
negation = refl

lane_numbers : four (run (instr 6 0 0 3 0 0 ∷ instr 2 0 0 2 3 0 ∷ [])).value ≡ 0 ∷ 1 ∷ 0 ∷ 3 ∷ []
unfolding int_wrap
lane_numbers = refl

-- the elements of `a` at the lanes' numbers
loads : four (run (instr 6 0 0 3 0 0 ∷ instr 10 0 0 4 0 0 ∷ instr 9 0 0 4 4 3 ∷ instr 7 0 0 2 4 0 ∷ [])).value ≡ 5 ∷ 6 ∷ 0 ∷ 0 ∷ []
unfolding int_wrap
loads = refl

stores : cells 1 (run (instr 6 0 0 3 0 0 ∷ instr 10 0 0 4 0 (x 1) ∷ instr 9 0 0 4 4 3 ∷ instr 8 0 0 0 4 0 ∷ [])) ≡ 1 ∷ 2 ∷ 0 ∷ 4 ∷ 0 ∷ 0 ∷ []
unfolding int_wrap
stores = refl

-- all lanes store to one cell, the last of them wins
stores_in_order : cells 1 (run (instr 10 0 0 4 0 (x 1) ∷ instr 8 0 0 0 4 0 ∷ [])) ≡ 4 ∷ 0 ∷ 0 ∷ 0 ∷ 0 ∷ 0 ∷ []
unfolding int_wrap
stores_in_order = refl

-- `b[3 * n]` is outside for n = 2 and 4
load_outside : four (run (instr 0 2 0 6 0 3 ∷ instr 3 2 0 7 0 (6 + x 2) ∷ instr 10 0 0 4 0 (x 1) ∷ instr 9 0 0 4 4 7 ∷ instr 7 0 0 2 4 0 ∷ [])).stop ≡ None ∷ Some Bounds ∷ None ∷ Some Bounds ∷ []
unfolding int_wrap
load_outside = refl

offset_outside : four (run (instr 0 3 0 3 0 (2 ^ 31) ∷ instr 10 0 0 4 0 0 ∷ instr 9 0 0 4 4 3 ∷ [])).stop ≡ Some Bounds ∷ Some Bounds ∷ None ∷ Some Bounds ∷ []
offset_outside = refl

no_array : four (run (instr 10 0 0 4 0 (x 9) ∷ instr 8 0 0 0 4 0 ∷ [])).stop ≡ Some Bounds ∷ Some Bounds ∷ None ∷ Some Bounds ∷ []
no_array = refl

-- ---- masks: mask 1 has the live lanes whose second argument is not 0

mask_of : four (run (instr 11 0 0 1 1 0 ∷ instr 0 2 1 2 0 9 ∷ [])).value ≡ 9 ∷ 0 ∷ 0 ∷ 0 ∷ []
mask_of = refl

mask_but : four (run (instr 11 0 0 1 1 0 ∷ instr 14 0 0 2 0 1 ∷ instr 0 2 2 2 0 9 ∷ [])).value ≡ 0 ∷ 9 ∷ 0 ∷ 9 ∷ []
mask_but = refl

mask_and : four (run (instr 11 0 0 1 1 0 ∷ instr 12 0 0 2 0 1 ∷ instr 0 2 2 2 0 9 ∷ [])).value ≡ 9 ∷ 0 ∷ 0 ∷ 0 ∷ []
mask_and = refl

mask_or : four (run (instr 11 0 0 1 1 0 ∷ instr 14 0 0 2 0 1 ∷ instr 13 0 0 2 1 2 ∷ instr 0 2 2 2 0 9 ∷ [])).value ≡ 9 ∷ 9 ∷ 0 ∷ 9 ∷ []
mask_or = refl

-- ---- loops

-- n + (n - 1) + .. + 1, while n is not 0
abbrev sum : List Instr
sum = instr 0 2 0 6 0 1 ∷ instr 11 0 0 1 0 0 ∷ instr 15 0 1 0 0 (x 3) ∷ instr 3 2 1 2 2 0 ∷ instr 3 2 1 0 0 (6 + x 1) ∷ instr 11 0 1 1 0 0 ∷ []

loop_ends : four (run sum).value ≡ 1 ∷ 3 ∷ 0 ∷ 10 ∷ []
unfolding int_wrap
loop_ends = refl

-- three turns are too few for lane 3 alone
loop_out_of_turns : four (run_for 3 sum).stop ≡ None ∷ None ∷ None ∷ Some Turns ∷ []
unfolding int_wrap
loop_out_of_turns = refl

loop_of_three_turns : four (run_for 3 sum).value ≡ 1 ∷ 3 ∷ 0 ∷ 9 ∷ []
unfolding int_wrap
loop_of_three_turns = refl

-- the same sum, counted by a loop in the loop; behind it, one more
nested_loops : four (run (
    instr 0 2 0 6 0 1 ∷ instr 11 0 0 1 0 0
    ∷ instr 15 0 1 0 0 (x 8) ∷ instr 1 0 1 7 0 0 ∷ instr 11 0 1 2 7 0
    ∷ instr 15 0 2 0 0 (x 3) ∷ instr 3 2 2 2 2 6 ∷ instr 3 2 2 7 7 (6 + x 1) ∷ instr 11 0 2 2 7 0
    ∷ instr 3 2 1 0 0 (6 + x 1) ∷ instr 11 0 1 1 0 0
    ∷ instr 3 2 0 2 2 6 ∷ [])).value ≡ 2 ∷ 4 ∷ 0 ∷ 11 ∷ []
unfolding int_wrap
nested_loops = refl

-- ---- calls

abbrev param : Kind → Param
param kind = record { kind = kind; align = None }

abbrev arg : ℕ → SlotArg
arg r = record { reg = r; shape = AnyShape }

-- the arguments 1, 2, 3, 4 and 0, 10, 20, 30
abbrev tens : ℕ → ℕ → ℕ
tens zero j = j + 1
tens (suc p) j = 10 * j

-- lanes 1 to 3 call a code on both arguments, at entry 1 of four lanes with these kinds or at entry 2 of one lane
abbrev calling : ℕ → Param → Param → List Instr → Given
calling target p q callee =
    let slot : CallSite = record { function = 2; always = true; result = Some 2; args = arg 0 ∷ arg 1 ∷ [] } in
    let i : Tables = image (code (slot ∷ []) (instr 16 0 0 0 0 0 ∷ []) ∷ code [] callee ∷ [])
    (entry M 4 0 [] (target ∷ []) [] ∷ entry M 4 1 (p ∷ q ∷ []) [] [] ∷ entry Scalar 1 1 [] [] [] ∷ []) in
    runs i 5 0 (λ j. not (j == 0)) tens (first_memory i)

abbrev adds : List Instr
adds = instr 3 2 0 2 0 1 ∷ []

vector_argument : four (calling 1 (param Vector) (param Vector) adds).value ≡ 0 ∷ 12 ∷ 23 ∷ 34 ∷ []
unfolding int_wrap
vector_argument = refl

-- lane 1 is the first live one
uniform_argument : four (calling 1 (param Vector) (param Uniform) adds).value ≡ 0 ∷ 12 ∷ 13 ∷ 14 ∷ []
unfolding int_wrap
uniform_argument = refl

linear_argument : four (calling 1 (param Vector) (param (Linear (By (pos 2)))) adds).value ≡ 0 ∷ 12 ∷ 15 ∷ 18 ∷ []
unfolding int_wrap
linear_argument = refl

linear_by_an_argument : four (calling 1 (param Uniform) (param (Linear (Arg 0))) adds).value ≡ 0 ∷ 12 ∷ 14 ∷ 16 ∷ []
unfolding int_wrap
linear_by_an_argument = refl

-- the callee reads an int through its first parameter, a pointer
abbrev reading : Listing
reading = record {
  routine = record { lane_code = true; params = 2; result = Some 2; regs = Ptr I32 true ∷ Int I32 ∷ Int I32 ∷ []; masks = 1; slots = []; loops = 0; instrs = instr 7 0 0 2 0 0 ∷ [] };
  loops = [];
}

-- lanes 1 to 3 call it on the address of `a` and their first argument, with a pointer that grows by this step
abbrev pointing : Step → Param → Given
pointing step q =
    let slot : CallSite = record { function = 2; always = true; result = Some 2; args = arg 4 ∷ arg 0 ∷ [] } in
    let i : Tables = image (code (slot ∷ []) (instr 10 0 0 4 0 0 ∷ instr 16 0 0 0 0 0 ∷ []) ∷ reading ∷ [])
    (entry M 4 0 [] (1 ∷ []) [] ∷ entry M 4 1 (param (Linear step) ∷ q ∷ []) [] [] ∷ []) in
    runs i 5 0 (λ j. not (j == 0)) tens (first_memory i)

-- 4 bytes are one element
linear_pointer : four (pointing (By (pos 4)) (param Vector)).value ≡ 0 ∷ 5 ∷ 6 ∷ 7 ∷ []
unfolding int_wrap
linear_pointer = refl

-- lane 1 has the step, 2 elements
linear_pointer_by_an_argument : four (pointing (Arg 1) (param Uniform)).value ≡ 0 ∷ 5 ∷ 7 ∷ 0 ∷ []
unfolding int_wrap
linear_pointer_by_an_argument = refl

scalar_target : four (calling 2 (param Vector) (param Vector) adds).value ≡ 0 ∷ 12 ∷ 23 ∷ 34 ∷ []
unfolding int_wrap
scalar_target = refl

one_vector_call : calls_of 1 (calling 1 (param Vector) (param Vector) adds).mem.log ≡ 1
one_vector_call = refl

three_scalar_calls : calls_of 2 (calling 2 (param Vector) (param Vector) adds).mem.log ≡ 3
three_scalar_calls = refl

-- 1 / (20 - argument) stops in lane 2
stops_of_a_call : four (calling 1 (param Vector) (param Vector) (instr 0 2 0 6 0 20 ∷ instr 3 2 0 7 6 (1 + x 1) ∷ instr 3 2 0 2 6 (7 + x 3) ∷ [])).stop ≡ None ∷ None ∷ Some Divide ∷ None ∷ []
unfolding int_wrap
stops_of_a_call = refl

-- ---- simd loops

-- the body stores i to element i of its pointer
abbrev body : Listing
body = record {
  routine = record {
    lane_code = true;
    params = 2;
    result = None;
    regs = Int I64 ∷ Ptr I32 true ∷ [];
    masks = 1;
    slots = [];
    loops = 0;
    instrs = instr 9 0 0 1 1 0 ∷ instr 8 0 0 0 1 0 ∷ [];
  };
  loops = [];
}

-- registers 0 and 1 are the bounds, 2 the pointer that the body gets, 3 the one of the guard
abbrev main : ℕ → ℕ → ℕ → Listing
main count stored other = record {
  routine = record {
    lane_code = false;
    params = 0;
    result = None;
    regs = Int I64 ∷ Int I64 ∷ Ptr I32 true ∷ Ptr I32 true ∷ [];
    masks = 1;
    slots = [];
    loops = 1;
    instrs = instr 0 3 0 1 0 count ∷ instr 10 0 0 2 0 (x stored) ∷ instr 10 0 0 3 0 (x other) ∷ instr 18 0 0 0 0 0 ∷ instr 17 0 0 0 1 0 ∷ [];
  };
  loops = (record { simdlen = None; low = 0; high = 1; captures = 2 ∷ []; guards = (record { first = 2; second = 3 }) ∷ []; body = numbered 1 }) ∷ [];
}

-- so many iterations, with at most so many turns: entry 1 takes four of them, entry 2 one
abbrev looping : ℕ → ℕ → ℕ → ℕ → Given
looping turns count stored other =
    let i : Tables = image (main count stored other ∷ body ∷ [])
    (entry Ordinary 1 0 [] [] ((record { chunk = 1; rest = 2 }) ∷ []) ∷ entry Chunk 4 1 [] [] [] ∷ entry Rest 1 1 [] [] [] ∷ []) in
    runs i turns 0 (λ j. j == 0) (λ p j. 0) (first_memory i)

-- how often the chunk and the rest were called
abbrev counts : Given → List ℕ
counts g = calls_of 1 g.mem.log ∷ calls_of 2 g.mem.log ∷ []

no_iteration : counts (looping 20 0 0 1) ≡ 0 ∷ 0 ∷ []
no_iteration = refl

fewer_than_none : counts (looping 20 (minus 3) 0 1) ≡ 0 ∷ 0 ∷ []
fewer_than_none = refl

three_iterations : counts (looping 20 3 0 1) ≡ 0 ∷ 3 ∷ []
three_iterations = refl

four_iterations : counts (looping 20 4 0 1) ≡ 1 ∷ 0 ∷ []
four_iterations = refl

ten_iterations : counts (looping 20 10 0 1) ≡ 2 ∷ 2 ∷ []
ten_iterations = refl

-- the numbers of the iterations are stored, and the count is printed behind the loop
cells_of_four : cells 0 (looping 20 4 0 1) ≡ 0 ∷ 1 ∷ 2 ∷ 3 ∷ 0 ∷ 0 ∷ []
unfolding int_wrap
cells_of_four = refl

prints_behind : printed (looping 20 10 0 1).mem.log ≡ pos 10 ∷ []
prints_behind = refl

-- both pointers name one array
guard_fails : counts (looping 20 10 0 0) ≡ 0 ∷ 10 ∷ []
guard_fails = refl

-- `b` has six elements: lanes 2 and 3 of the second chunk stop, and so does the loop
stop_in_a_chunk : (looping 20 10 1 0).stop 0 ≡ Some Bounds
stop_in_a_chunk = refl

chunks_until_the_stop : counts (looping 20 10 1 0) ≡ 2 ∷ 0 ∷ []
chunks_until_the_stop = refl

cells_until_the_stop : cells 1 (looping 20 10 1 0) ≡ 0 ∷ 1 ∷ 2 ∷ 3 ∷ 4 ∷ 5 ∷ []
unfolding int_wrap
cells_until_the_stop = refl

prints_nothing_behind : printed (looping 20 10 1 0).mem.log ≡ []
prints_nothing_behind = refl

-- five turns: one chunk and one more iteration, then the stop
turns_of_a_simd_loop : counts (looping 5 10 0 1) ≡ 1 ∷ 1 ∷ []
turns_of_a_simd_loop = refl

stop_of_turns : (looping 5 10 0 1).stop 0 ≡ Some Turns
stop_of_turns = refl
