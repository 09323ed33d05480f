-- When tables are those of an image.
use Rattle.std.specs.Prelude.{ℕ, zero, suc, ◌+◌, ◌*◌, ◌==◌, nat_lt, nat_le, max, sum, Bool, true, false, not, ◌&&◌, ◌||◌, cond, List, [], ◌∷◌, length, map, take, Option, Some, None, is_none, slice_get}
use Rattle.std.specs.List.{list_all, range_with_len}
use Rattle.vk_kinds.specs.declared.kinds.Isa.{Isa}
use Rattle.vk_kinds.specs.declared.kinds.Isa.TheVariants.{B, C, D, E, N as LetterN, S}
use Rattle.vk_kinds.specs.declared.kinds.Target.{Target}
use Rattle.vk_kinds.specs.declared.kinds.Target.TheVariants.{X86, Arm}
use Rattle.vk_kinds.specs.Types.{ctype_number}
use Rattle.vk_code.specs.declared.code.SlotArg.{SlotArg}
use Rattle.vk_code.specs.declared.env.ObjectHead.{ObjectHead}
use Rattle.vk_code.specs.Listing.{CallSite, Listing, SimdSite, numbered_code, reg_type}
use Rattle.vk_code.specs.Tests.{all_good, holds, pairs}
use Rattle.vk_code.specs.Valid.{Environment, body_regs, is_integer, result_type, verdicts}
use Rattle.vk_object.specs.declared.tables.EntryKind.{EntryKind}
use Rattle.vk_object.specs.declared.tables.EntryKind.TheVariants.{Ordinary, Scalar, N, M, Chunk, Rest}
use Rattle.vk_object.specs.declared.tables.LoopTargets.{LoopTargets}
use Rattle.vk_object.specs.Parameters.{are_kinds, are_typed}
use Rattle.vk_object.specs.Tables.{ArrayLists, EntryLists, Tables}
use Rattle.vk_object.specs.Texts.{are_given, ascend, between, is_before, is_identifier, is_word}

-- ---- header

-- the letter is one of the target
abbrev pub is_letter : Target → Isa → Bool
is_letter X86 B = true
is_letter X86 C = true
is_letter X86 D = true
is_letter X86 E = true
is_letter X86 LetterN = false
is_letter X86 S = false
is_letter Arm B = false
is_letter Arm C = false
is_letter Arm D = false
is_letter Arm E = false
is_letter Arm LetterN = true
is_letter Arm S = true

-- a vector length stands with s alone
abbrev pub is_vl : Isa → ℕ → Bool
is_vl B vl = vl == 0
is_vl C vl = vl == 0
is_vl D vl = vl == 0
is_vl E vl = vl == 0
is_vl LetterN vl = vl == 0
is_vl S vl = (vl == 128) || (vl == 256) || (vl == 512) || (vl == 1024) || (vl == 2048)

-- a number of a list
abbrev pub is_number_of : {A : Type 0} → List A → ℕ → Bool
is_number_of xs n = nat_lt n (length xs)

-- main, where there is one, is an entry
abbrev pub is_some_entry : Tables → Option ℕ → Bool
is_some_entry image None = true
is_some_entry image (Some n) = is_number_of image.entries n

-- ---- arrays

abbrev pub is_array : ArrayLists → Bool
is_array a = is_identifier a.text && are_given a.ty a.length a.elements

abbrev pub array_before : ArrayLists → ArrayLists → Bool
array_before a b = is_before a.text b.text

-- ---- entries by themselves

abbrev pub is_ordinary : EntryKind → Bool
is_ordinary Ordinary = true
is_ordinary Scalar = false
is_ordinary N = false
is_ordinary M = false
is_ordinary Chunk = false
is_ordinary Rest = false

abbrev pub is_variant : EntryKind → Bool
is_variant Ordinary = false
is_variant Scalar = false
is_variant N = true
is_variant M = true
is_variant Chunk = false
is_variant Rest = false

abbrev pub is_chunk : EntryKind → Bool
is_chunk Ordinary = false
is_chunk Scalar = false
is_chunk N = false
is_chunk M = false
is_chunk Chunk = true
is_chunk Rest = false

abbrev pub is_rest : EntryKind → Bool
is_rest Ordinary = false
is_rest Scalar = false
is_rest N = false
is_rest M = false
is_rest Chunk = false
is_rest Rest = true

-- variants and chunks have 2 to 256 lanes, the others one
abbrev pub has_lanes : EntryKind → ℕ → Bool
has_lanes kind n = cond (is_variant kind || is_chunk kind) (between 2 256 n) (n == 1)

-- letters, digits, underscores and dots
abbrev pub is_entry_byte : ℕ → Bool
is_entry_byte b = is_word b || (b == 46)

-- both entries of a loop's body are there
abbrev pub are_entries : Tables → LoopTargets → Bool
are_entries image t = is_number_of image.entries t.chunk && is_number_of image.entries t.rest

-- its text, lanes and parameters are in range, and its code and the entries that it calls are there
abbrev pub is_row : Tables → EntryLists → Bool
is_row image e =
    between 1 4096 (length e.text) && list_all is_entry_byte e.text && has_lanes e.kind e.lanes && is_number_of image.codes e.code
    && cond (is_variant e.kind) (are_kinds e.params) (length e.params == 0)
    && list_all (is_number_of image.entries) e.targets && list_all (are_entries image) e.loops

-- by text, then by lanes
abbrev pub entry_before : EntryLists → EntryLists → Bool
entry_before a b = is_before a.text b.text || (not (is_before b.text a.text) && nat_lt a.lanes b.lanes)

-- ---- codes

abbrev pub object_of : ArrayLists → ObjectHead
object_of a = record { ty = a.ty; fixed = a.fixed }

-- what code of the image may name: its arrays
abbrev pub names_of : Tables → Environment
names_of image = record { image = true; callees = []; objects = map object_of image.arrays }

-- the loop's body is a code
abbrev pub has_body : Tables → SimdSite → Bool
has_body image l = holds (is_number_of image.codes) (numbered_code l.body)

-- valid code, whose loops name codes
abbrev pub is_code : Tables → Listing → Bool
is_code image c = list_all (has_body image) c.loops && all_good (verdicts (names_of image) c)

-- ---- entries and their codes

abbrev pub code_of : Tables → EntryLists → Option Listing
code_of image e = slice_get image.codes e.code

-- the numbers of the types of a code's parameters, and of its result
abbrev pub param_types : Listing → List ℕ
param_types c = map ctype_number (take c.routine.params c.routine.regs)

abbrev pub result_of : Listing → ℕ
result_of c = result_type c.routine.regs c.routine.result

-- a function has at most 64 parameters, and an integer as its result or none
abbrev pub is_function_code : Listing → Bool
is_function_code c = nat_le c.routine.params 64 && (is_integer (result_of c) || (result_of c == 255))

-- the code is lane code but for ordinary entries, that of a function but for bodies of loops, and has the types of the parameters
abbrev pub suits : EntryLists → Listing → Bool
suits e c =
    (is_ordinary e.kind || c.routine.lane_code) && (is_chunk e.kind || is_rest e.kind || is_function_code c)
    && (not (is_variant e.kind) || are_typed (param_types c) e.params)

-- the types of a slot's registers
abbrev pub arg_types : Listing → CallSite → List ℕ
arg_types c s = map (λ (a : SlotArg). reg_type c.routine.regs a.reg) s.args

abbrev pub is_equal : ℕ → ℕ → Bool
is_equal x y = x == y

-- which entries an entry may call in a slot: scalar codes, variants of its lanes, and from an ordinary one ordinary ones
abbrev pub may_call : EntryLists → EntryLists → Bool
may_call e target = elim target.kind as (λ _. Bool) [
  | Ordinary ↦ is_ordinary e.kind
  | Scalar ↦ true
  | N ↦ target.lanes == e.lanes
  | M ↦ target.lanes == e.lanes
  | Chunk ↦ false
  | Rest ↦ false
]

-- the code has exactly the slot's types
abbrev pub has_slot_types : Listing → CallSite → Listing → Bool
has_slot_types c s callee = pairs is_equal (arg_types c s) (param_types callee) && (result_type c.routine.regs s.result == result_of callee)

-- an entry that a slot may call, with its types
abbrev pub is_call : Tables → EntryLists → Listing → CallSite → ℕ → Bool
is_call image e c s n = holds (λ (t : EntryLists). may_call e t && holds (has_slot_types c s) (code_of image t)) (slice_get image.entries n)

-- the code has no result, and parameters of the types of the loop's low and captures
abbrev pub has_loop_types : Listing → SimdSite → Listing → Bool
has_loop_types c l body = is_none body.routine.result && pairs is_equal (map (reg_type c.routine.regs) (body_regs l)) (param_types body)

-- an entry of a kind that has the code of the loop's body
abbrev pub is_body_entry : Tables → Listing → SimdSite → (EntryKind → Bool) → ℕ → Bool
is_body_entry image c l kind n = holds (λ (t : EntryLists).
    kind t.kind && holds (is_equal t.code) (numbered_code l.body) && holds (has_loop_types c l) (code_of image t)) (slice_get image.entries n)

-- a loop's targets are a chunk and a rest entry of its body
abbrev pub is_loop : Tables → Listing → SimdSite → LoopTargets → Bool
is_loop image c l t = is_body_entry image c l is_chunk t.chunk && is_body_entry image c l is_rest t.rest

-- each slot and each loop of the code has its targets
abbrev pub is_linked : Tables → EntryLists → Listing → Bool
is_linked image e c = suits e c && pairs (is_call image e c) c.routine.slots e.targets && pairs (is_loop image c) c.loops e.loops

abbrev pub is_entry : Tables → EntryLists → Bool
is_entry image e = holds (is_linked image e) (code_of image e)

-- main is ordinary, without parameters, and its result is an int
abbrev pub is_main : Tables → Option ℕ → Bool
is_main image None = true
is_main image (Some n) = holds (λ (e : EntryLists).
    is_ordinary e.kind && holds (λ (c : Listing). (c.routine.params == 0) && (result_of c == 2)) (code_of image e)) (slice_get image.entries n)

-- ---- chains of calls

-- what an entry calls, each of it
abbrev pub calls_within : (ℕ → Bool) → EntryLists → Bool
calls_within p e = list_all p e.targets && list_all (λ (t : LoopTargets). p t.chunk && p t.rest) e.loops

-- the chains of calls from entry n on have at most `depth` entries, itself counted; so none of them comes back to an entry
abbrev pub is_within : Tables → ℕ → ℕ → Bool
is_within image zero n = false
is_within image (suc depth) n = holds (calls_within (is_within image depth)) (slice_get image.entries n)

-- the greatest number
abbrev pub greatest : List ℕ → ℕ
greatest [] = 0
greatest (x ∷ xs) = max x (greatest xs)

-- the registers and masks of an entry, one cell for each lane
abbrev pub frame_cells : EntryLists → Option Listing → ℕ
frame_cells e None = 0
frame_cells e (Some c) = (length c.routine.regs + c.routine.masks) * e.lanes

-- the greatest sum of cells along a chain of at most `depth` entries from entry n on
abbrev pub chain_cells : Tables → ℕ → ℕ → ℕ
chain_cells image zero n = 0
chain_cells image (suc depth) n = elim (slice_get image.entries n) as (λ _. ℕ) [
  | None ↦ 0
  | Some e ↦ frame_cells e (code_of image e)
      + max (greatest (map (chain_cells image depth) e.targets)) (greatest (map (λ (t : LoopTargets). max (chain_cells image depth t.chunk) (chain_cells image depth t.rest)) e.loops))
]

-- the numbers of the entries
abbrev pub entry_numbers : Tables → List ℕ
entry_numbers image = range_with_len 0 (length image.entries)

-- all cells: those of the arrays, and those of the greatest chain
abbrev pub cells_of : Tables → ℕ
cells_of image = sum (map (λ (a : ArrayLists). a.length) image.arrays) + greatest (map (chain_cells image 64) (entry_numbers image))

-- ---- the image

-- the conditions on the tables of an image, in the order in which they are judged
abbrev pub is_image : Tables → Bool
is_image image =
    is_letter image.target image.isa && is_vl image.isa image.vl
    && list_all is_array image.arrays && ascend array_before image.arrays
    && list_all (is_row image) image.entries && ascend entry_before image.entries && is_some_entry image image.main
    && list_all (is_code image) image.codes
    && list_all (is_entry image) image.entries && is_main image image.main
    && list_all (is_within image 64) (entry_numbers image) && nat_le (cells_of image) 33554432
