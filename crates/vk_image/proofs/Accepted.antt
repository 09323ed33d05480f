-- An image, and tables that break one of its conditions each.
use Rattle.std.proofs.Common.{◌≡◌, ℕ, zero, suc, ◌+◌, ◌-◌, ◌^◌, Bool, true, false, pos, List, [], ◌∷◌, Some, None, replicate, slice_set, refl}
use Rattle.vk_types.specs.declared.types.Ty.TheVariants.{I32, I64}
use Rattle.vk_types.specs.declared.types.Word.{Word}
use Rattle.vk_kinds.specs.declared.heads.CType.TheVariants.{Int}
use Rattle.vk_kinds.specs.declared.kinds.Isa.TheVariants.{B, N as LetterN, S}
use Rattle.vk_kinds.specs.declared.kinds.Kind.{Kind}
use Rattle.vk_kinds.specs.declared.kinds.Kind.TheVariants.{Vector, Uniform, Linear, Ref}
use Rattle.vk_kinds.specs.declared.kinds.Param.{Param}
use Rattle.vk_kinds.specs.declared.kinds.Step.TheVariants.{One, By, Arg}
use Rattle.vk_kinds.specs.declared.kinds.Target.TheVariants.{X86, Arm}
use Rattle.vk_code.specs.declared.code.Shape.TheVariants.{Vector as AnyShape}
use Rattle.vk_code.specs.declared.code.SlotArg.{SlotArg}
use Rattle.vk_code.specs.declared.instruction.Instr.{Instr}
use Rattle.vk_code.specs.Listing.{Listing, numbered}
use Rattle.vk_object.specs.declared.tables.EntryKind.{EntryKind}
use Rattle.vk_object.specs.declared.tables.EntryKind.TheVariants.{Ordinary, Scalar, M, Chunk, Rest}
use Rattle.vk_object.specs.declared.tables.LoopTargets.{LoopTargets}
use Rattle.vk_object.specs.Images.{cells_of, is_image}
use Rattle.vk_object.specs.Tables.{ArrayLists, EntryLists, Tables}

-- ---- an image

abbrev instr : ℕ → ℕ → ℕ → ℕ → ℕ → ℕ → Instr
instr op ty m d a imm = record { op = op; ty = ty; m = m; d = d; a = a; imm = imm }

abbrev arg : ℕ → SlotArg
arg r = record { reg = r; shape = AnyShape }

-- adds its two arguments
abbrev sum : Listing
sum = record {
  routine = record { lane_code = true; params = 2; result = Some 2; regs = Int I32 ∷ Int I32 ∷ Int I32 ∷ []; masks = 1; slots = []; loops = 0; instrs = instr 3 2 0 2 0 1 ∷ [] };
  loops = [];
}

-- calls it, and runs a simd loop
abbrev start : Listing
start = record {
  routine = record {
    lane_code = false;
    params = 0;
    result = Some 0;
    regs = Int I32 ∷ Int I64 ∷ [];
    masks = 1;
    loops = 1;
    slots = (record { function = 2; always = true; result = Some 0; args = arg 0 ∷ arg 0 ∷ [] }) ∷ [];
    instrs = instr 16 0 0 0 0 0 ∷ instr 18 0 0 0 0 0 ∷ [];
  };
  loops = (record { simdlen = None; low = 1; high = 1; captures = []; guards = []; body = numbered 2 }) ∷ [];
}

abbrev body : Listing
body = record {
  routine = record { lane_code = true; params = 1; result = None; regs = Int I64 ∷ []; masks = 1; slots = []; loops = 0; instrs = [] };
  loops = [];
}

abbrev array : ℕ → ℕ → List Word → ArrayLists
array text length elements = record { text = text ∷ []; ty = I32; fixed = false; length = length; elements = elements }

abbrev entry : List ℕ → EntryKind → ℕ → ℕ → List Param → List ℕ → List LoopTargets → EntryLists
entry text kind lanes code params targets loops = record { text = text; kind = kind; lanes = lanes; code = code; params = params; targets = targets; loops = loops }

abbrev param : Kind → Param
param kind = record { kind = kind; align = None }

-- `f`, `m`, `m.b` twice, `v`
abbrev entries : List EntryLists
entries =
    entry (102 ∷ []) Scalar 1 0 [] [] []
    ∷ entry (109 ∷ []) Ordinary 1 1 [] (0 ∷ []) ((record { chunk = 3; rest = 2 }) ∷ [])
    ∷ entry (109 ∷ 46 ∷ 98 ∷ []) Rest 1 2 [] [] []
    ∷ entry (109 ∷ 46 ∷ 98 ∷ []) Chunk 4 2 [] [] []
    ∷ entry (118 ∷ []) M 4 0 (param Vector ∷ param Uniform ∷ []) [] []
    ∷ []

abbrev image : Tables
image = record {
  target = X86;
  isa = B;
  vl = 0;
  main = Some 1;
  arrays = array 97 4 ((record { 0 = 0 }) ∷ (record { 0 = 7 }) ∷ []) ∷ array 98 2 [] ∷ [];
  codes = sum ∷ start ∷ body ∷ [];
  entries = entries;
}

accepted : is_image image ≡ true
accepted = refl

without_main : is_image (record image { main = None }) ≡ true
without_main = refl

-- ---- header

letter_of_another_target : is_image (record image { isa = LetterN }) ≡ false
letter_of_another_target = refl

width_without_sve : is_image (record image { vl = 128 }) ≡ false
width_without_sve = refl

sve_without_width : is_image (record image { target = Arm; isa = S }) ≡ false
sve_without_width = refl

sve : is_image (record image { target = Arm; isa = S; vl = 256 }) ≡ true
sve = refl

main_is_no_entry : is_image (record image { main = Some 5 }) ≡ false
main_is_no_entry = refl

-- ---- arrays

abbrev with_array : ArrayLists → Bool
with_array a = is_image (record image { arrays = a ∷ array 98 2 [] ∷ [] })

array_without_name : with_array (record { text = []; ty = I32; fixed = false; length = 4; elements = [] }) ≡ false
array_without_name = refl

name_from_a_digit : with_array (array 48 4 []) ≡ false
name_from_a_digit = refl

one_name_twice : with_array (array 98 4 []) ≡ false
one_name_twice = refl

more_elements_than_the_length : with_array (array 97 1 ((record { 0 = 1 }) ∷ (record { 0 = 7 }) ∷ [])) ≡ false
more_elements_than_the_length = refl

last_element_0 : with_array (array 97 4 ((record { 0 = 7 }) ∷ (record { 0 = 0 }) ∷ [])) ≡ false
last_element_0 = refl

element_above_its_type : with_array (array 97 4 ((record { 0 = 2 ^ 31 }) ∷ [])) ≡ false
element_above_its_type = refl

-- ---- entries

abbrev with : ℕ → EntryLists → Bool
with n e = is_image (record image { entries = slice_set entries n e })

entry_without_text : with 0 (entry [] Scalar 1 0 [] [] []) ≡ false
entry_without_text = refl

text_with_a_blank : with 0 (entry (102 ∷ 32 ∷ []) Scalar 1 0 [] [] []) ≡ false
text_with_a_blank = refl

scalar_of_2_lanes : with 0 (entry (102 ∷ []) Scalar 2 0 [] [] []) ≡ false
scalar_of_2_lanes = refl

variant_of_257_lanes : with 4 (entry (118 ∷ []) M 257 0 (param Vector ∷ param Vector ∷ []) [] []) ≡ false
variant_of_257_lanes = refl

chunk_below_rest : with 3 (entry (109 ∷ 46 ∷ 97 ∷ []) Chunk 4 2 [] [] []) ≡ false
chunk_below_rest = refl

no_code_3 : with 0 (entry (102 ∷ []) Scalar 1 3 [] [] []) ≡ false
no_code_3 = refl

scalar_with_parameters : with 0 (entry (102 ∷ []) Scalar 1 0 (param Vector ∷ param Vector ∷ []) [] []) ≡ false
scalar_with_parameters = refl

parameter_missing : with 4 (entry (118 ∷ []) M 4 0 (param Vector ∷ []) [] []) ≡ false
parameter_missing = refl

kind_of_references : with 4 (entry (118 ∷ []) M 4 0 (param Vector ∷ param (Ref One) ∷ []) [] []) ≡ false
kind_of_references = refl

step_0 : with 4 (entry (118 ∷ []) M 4 0 (param Vector ∷ param (Linear (By (pos 0))) ∷ []) [] []) ≡ false
step_0 = refl

step_by_a_uniform_argument : with 4 (entry (118 ∷ []) M 4 0 (param Uniform ∷ param (Linear (Arg 0)) ∷ []) [] []) ≡ true
step_by_a_uniform_argument = refl

step_by_a_vector_argument : with 4 (entry (118 ∷ []) M 4 0 (param Vector ∷ param (Linear (Arg 0)) ∷ []) [] []) ≡ false
step_by_a_vector_argument = refl

integer_aligned : with 4 (entry (118 ∷ []) M 4 0 (param Vector ∷ (record { kind = Vector; align = Some 16 }) ∷ []) [] []) ≡ false
integer_aligned = refl

scalar_code_of_ordinary_code : with 0 (entry (102 ∷ []) Scalar 1 1 [] (0 ∷ []) ((record { chunk = 3; rest = 2 }) ∷ [])) ≡ false
scalar_code_of_ordinary_code = refl

-- ---- targets

abbrev with_targets : List ℕ → List LoopTargets → Bool
with_targets targets loops = with 1 (entry (109 ∷ []) Ordinary 1 1 [] targets loops)

target_missing : with_targets [] ((record { chunk = 3; rest = 2 }) ∷ []) ≡ false
target_missing = refl

target_of_other_types : with_targets (1 ∷ []) ((record { chunk = 3; rest = 2 }) ∷ []) ≡ false
target_of_other_types = refl

target_of_other_lanes : with_targets (4 ∷ []) ((record { chunk = 3; rest = 2 }) ∷ []) ≡ false
target_of_other_lanes = refl

loop_without_targets : with_targets (0 ∷ []) [] ≡ false
loop_without_targets = refl

chunk_and_rest_exchanged : with_targets (0 ∷ []) ((record { chunk = 2; rest = 3 }) ∷ []) ≡ false
chunk_and_rest_exchanged = refl

main_with_parameters : is_image (record image { main = Some 0 }) ≡ false
main_with_parameters = refl

-- ---- chains

-- so many entries, of which each calls the next one; the last one calls entry `last`, where there is one
abbrev calling : Listing
calling = record {
  routine = record { lane_code = true; params = 0; result = None; regs = []; masks = 1; loops = 0; slots = (record { function = 0; always = true; result = None; args = [] }) ∷ []; instrs = instr 16 0 0 0 0 0 ∷ [] };
  loops = [];
}

abbrev ending : Listing
ending = record { routine = record { lane_code = true; params = 0; result = None; regs = []; masks = 1; loops = 0; slots = []; instrs = [] }; loops = [] }

abbrev links : ℕ → ℕ → List EntryLists → List EntryLists
links n zero last = last
links n (suc k) last = entry (replicate (n + 1) 97) Scalar 1 0 [] ((n + 1) ∷ []) [] ∷ links (n + 1) k last

abbrev chain : ℕ → EntryLists → Tables
chain k last = record image { main = None; codes = calling ∷ ending ∷ []; entries = links 0 k (last ∷ []) }

chain_of_64 : is_image (chain 63 (entry (98 ∷ []) Scalar 1 1 [] [] [])) ≡ true
chain_of_64 = refl

chain_of_65 : is_image (chain 64 (entry (98 ∷ []) Scalar 1 1 [] [] [])) ≡ false
chain_of_65 = refl

circle : is_image (chain 2 (entry (98 ∷ []) Scalar 1 0 [] (0 ∷ []) [])) ≡ false
circle = refl

-- ---- cells

-- 6 of the arrays, and 16 of the variant's frame
cells : cells_of image ≡ 22
cells = refl

cells_at_the_limit : is_image (record image { arrays = array 97 (33554432 - 16) [] ∷ [] }) ≡ true
cells_at_the_limit = refl

cells_above_the_limit : is_image (record image { arrays = array 97 (33554432 - 15) [] ∷ [] }) ≡ false
cells_above_the_limit = refl
