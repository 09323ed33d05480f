-- An image: the table of its fields in order, and the first rule that bytes break.
use Rattle.std.specs.Prelude.{◌≡◌, ℕ, ◌+◌, ◌*◌, ◌==◌, nat_lt, nat_le, Bool, true, not, ◌&&◌, ◌||◌, if◌then◌else◌, codes, List, [], ◌∷◌, length, map, Option, Some, None, Err, slice_get}
use Rattle.std.specs.List.{list_all, list_any, sum_by}
use Rattle.std.specs.Option.{option_map}
use Rattle.vk_kinds.specs.declared.kinds.Isa.{Isa}
use Rattle.vk_kinds.specs.declared.kinds.Isa.TheVariants as isas
use Rattle.vk_kinds.specs.declared.kinds.Target.{Target}
use Rattle.vk_kinds.specs.Sizes.{bytes_of}
use Rattle.vk_code.specs.Listing.{CallSite, Listing, SimdSite, numbered_code}
use Rattle.vk_code.specs.Tests.{holds}
use Rattle.vk_object.specs.declared.tables.EntryKind.{EntryKind}
use Rattle.vk_object.specs.declared.tables.EntryKind.TheVariants as kinds
use Rattle.vk_object.specs.declared.tables.LoopTargets.{LoopTargets}
use Rattle.vk_object.specs.Images.{cells_of, code_of, entry_numbers, has_lanes, is_body_entry, is_call, is_chunk, is_entry_byte, is_equal, is_function_code, is_letter, is_main, is_ordinary, is_rest, is_variant, is_vl, is_within, names_of, param_types}
use Rattle.vk_object.specs.Parameters.{are_kinds, are_typed}
use Rattle.vk_object.specs.Tables.{EntryLists, Tables}
use Rattle.vk_object.specs.Texts.{between, ends_well, is_before, is_identifier}
use Rattle.vk_format.specs.declared.rules.ObjectFault.{ObjectFault}
use Rattle.vk_format.specs.declared.rules.ObjectRule.TheVariants.{O1, O2, O3, O6, O7, O8, O9}
use Rattle.vk_format.specs.Format.{Format, fault, judge}
use Rattle.vk_format.specs.Codec.{Codec, number, ◌▹◌, field, given, meaning, judged, repeated, many, list, text, exactly, exactly_number, whole, Sound}
use Rattle.vk_code_format.specs.declared.rows.CodeRow.{CodeRow}
use Rattle.vk_code_format.specs.Codes.{in_image, code}
use Rattle.vk_code_format.specs.Fields.{coded, flag, below, target, int_type, element, last_of, comes_after, or_else, unless, first_along}
use Rattle.vk_code_format.specs.Parameters.{param, param_of}
use Rattle.vk_code_format.specs.Places.{code_length, part_at}
use Rattle.vk_code_format.specs.Values.{bad_part, listing_of}
use Rattle.vk_image_format.specs.declared.rows.EntryFront.{EntryFront}
use Rattle.vk_image_format.specs.declared.rows.EntryName.{EntryName}
use Rattle.vk_image_format.specs.declared.rows.RawArray.{RawArray}
use Rattle.vk_image_format.specs.declared.rows.RawEntry.{RawEntry}
use Rattle.vk_image_format.specs.declared.rows.RawImage.{RawImage}
use Rattle.vk_image_format.specs.Values.{entry_of, raw_image, tables_of}

-- ---- header

abbrev pub letter : Isa → ℕ
letter isas.B = 98
letter isas.C = 99
letter isas.D = 100
letter isas.E = 101
letter isas.N = 110
letter isas.S = 115

abbrev pub letter_among : List Isa → ℕ → Option Isa
letter_among [] b = None
letter_among (isa ∷ rest) b = if letter isa == b then Some isa else letter_among rest b

abbrev pub isa_of : ℕ → Option Isa
isa_of b = letter_among (isas.B ∷ isas.C ∷ isas.D ∷ isas.E ∷ isas.N ∷ isas.S ∷ []) b

-- a letter of the target
abbrev pub isa : {R : Type 0} → Target → Codec R Isa
isa target = judged O3 (is_letter target) (meaning O3 isa_of letter (number 1))

-- ---- arrays

-- an identifier; strictly ascending by bytes
abbrev pub array_text : {R : Type 0} → Option (List ℕ) → Codec R (List ℕ)
array_text last = judged O6 (comes_after is_before last) (judged O7 is_identifier text)

-- at most as many elements are given as there are; the last given one is not 0
abbrev pub array : {R : Type 0} → List RawArray → Codec R RawArray
array before = judged O6 (λ a. ends_well a.elements) (
    field (λ a. a.text) (array_text (option_map (λ a. a.text) (last_of before))) λ text.
    field (λ a. a.ty) int_type λ ty.
    field (λ a. a.fixed) flag λ fixed.
    field (λ a. a.length) (number 4) λ count.
    field (λ a. a.elements) (list (judged O7 (λ given. nat_le given count) (number 4)) (element ty)) λ elements.
    given (record { text = text; ty = ty; fixed = fixed; length = count; elements = elements }))

-- ---- entries

abbrev pub entry_kinds : List EntryKind
entry_kinds = kinds.Ordinary ∷ kinds.Scalar ∷ kinds.N ∷ kinds.M ∷ kinds.Chunk ∷ kinds.Rest ∷ []

abbrev pub kind_number : EntryKind → ℕ
kind_number kinds.Ordinary = 0
kind_number kinds.Scalar = 1
kind_number kinds.N = 2
kind_number kinds.M = 3
kind_number kinds.Chunk = 4
kind_number kinds.Rest = 5

-- 1 to 4096 letters, digits, underscores and dots
abbrev pub is_entry_text : List ℕ → Bool
is_entry_text t = between 1 4096 (length t) && list_all is_entry_byte t

-- not before the last one
abbrev pub keeps_order : EntryName → List ℕ → Bool
keeps_order last t = not (is_before t last.text)

-- strictly ascending by text, then by lanes
abbrev pub name_before : EntryName → EntryName → Bool
name_before a b = is_before a.text b.text || (not (is_before b.text a.text) && nat_lt a.lanes b.lanes)

abbrev pub where_some : {A B : Type 0} → (A → B → Bool) → Option A → B → Bool
where_some test None b = true
where_some test (Some a) b = test a b

-- a text before the last one is judged with the text, the same one with the lanes
abbrev pub entry_name : {R : Type 0} → Option EntryName → Codec R EntryName
entry_name last = judged O6 (where_some name_before last) (
    field (λ n. n.text) (judged O6 (where_some keeps_order last) (judged O7 is_entry_text text)) λ text.
    field (λ n. n.kind) (coded O7 entry_kinds kind_number) λ kind.
    field (λ n. n.lanes) (judged O7 (has_lanes kind) (number 2)) λ lanes.
    given (record { text = text; kind = kind; lanes = lanes }))

-- a variant has its code's parameters
abbrev pub params_of : EntryKind → Option CodeRow → ℕ
params_of kind None = 0
params_of kind (Some c) = if is_variant kind then c.routine.front.params else 0

-- a position that names no parameter is judged where the entry begins, once the last parameter is complete
abbrev pub entry_front : {R : Type 0} → List CodeRow → Option EntryName → Codec R EntryFront
entry_front codes last = judged O7 (λ e. are_kinds (map param_of e.params)) (
    field (λ e. e.name) (entry_name last) λ name.
    field (λ e. e.code) (below (length codes)) λ code.
    field (λ e. e.params) (repeated (params_of name.kind (slice_get codes code)) (param None)) λ params.
    given (record { name = name; code = code; params = params }))

abbrev pub loop_targets : {R : Type 0} → ℕ → Codec R LoopTargets
loop_targets entries =
    field (λ t. t.chunk) (below entries) λ chunk.
    field (λ t. t.rest) (below entries) λ rest.
    given (record { chunk = chunk; rest = rest })

abbrev pub slots_of : Option CodeRow → ℕ
slots_of None = 0
slots_of (Some c) = length c.routine.front.slots

abbrev pub loops_of : Option CodeRow → ℕ
loops_of None = 0
loops_of (Some c) = length c.loops

-- a target for each slot of its code, a chunk and a rest entry for each loop
abbrev pub entry : {R : Type 0} → List CodeRow → ℕ → List RawEntry → Codec R RawEntry
entry codes entries before =
    field (λ e. e.front) (entry_front codes (option_map (λ e. e.front.name) (last_of before))) λ front.
    field (λ e. e.targets) (repeated (slots_of (slice_get codes front.code)) (below entries)) λ targets.
    field (λ e. e.loops) (repeated (loops_of (slice_get codes front.code)) (loop_targets entries)) λ loops.
    given (record { front = front; targets = targets; loops = loops })

-- ---- the image

-- the number of `main` is judged once the last field is complete
abbrev pub image_table : {R : Type 0} → Codec R RawImage
image_table =
    exactly O1 (codes "VKLINKED") ▹
    exactly_number O2 2 1 ▹
    field (λ i. i.target) target λ target.
    field (λ i. i.isa) (isa target) λ isa.
    field (λ i. i.vl) (judged O3 (is_vl isa) (number 2)) λ vl.
    field (λ i. i.main) (number 4) λ main.
    field (λ i. i.arrays) (many (number 4) (λ n. array)) λ arrays.
    field (λ i. i.codes) (many (number 4) (λ n before. code (in_image n))) λ codes.
    field (λ i. i.entries) (many (number 4) (entry codes)) λ entries.
    given (record { target = target; isa = isa; vl = vl; main = main; arrays = arrays; codes = codes; entries = entries })

-- ---- places

abbrev pub main_at : ℕ
main_at = 14

abbrev pub array_length : RawArray → ℕ
array_length a = 2 + length a.text + 10 + length a.elements * bytes_of a.ty

-- the first code, and the first entry
abbrev pub codes_at : RawImage → ℕ
codes_at i = 22 + sum_by array_length i.arrays + 4

abbrev pub entries_at : RawImage → ℕ
entries_at i = codes_at i + sum_by (code_length (in_image (length i.codes))) i.codes + 4

-- the number of an entry's code, its targets and those of its loops, and its end
abbrev pub code_field : RawEntry → ℕ
code_field e = 2 + length e.front.name.text + 3

abbrev pub targets_field : RawEntry → ℕ
targets_field e = code_field e + 4 + 9 * length e.front.params

abbrev pub loops_field : RawEntry → ℕ
loops_field e = targets_field e + 4 * length e.targets

abbrev pub entry_length : RawEntry → ℕ
entry_length e = loops_field e + 8 * length e.loops

-- ---- codes, once the last field is complete

abbrev pub is_body_code : Listing → ℕ → Bool
is_body_code c k = list_any (λ (l : SimdSite). holds (is_equal k) (numbered_code l.body)) c.loops

-- an entry of another kind than 0, or a loop of an entry's code, names this code, which has to be lane code then
abbrev pub asks_for : Tables → ℕ → EntryLists → Bool
asks_for image k e = (not (is_ordinary e.kind) && (e.code == k)) || holds (λ c. is_body_code c k) (code_of image e)

-- the first bad part of a code: its head, types and kind are one
abbrev pub bad_part_of : Tables → ℕ → CodeRow → Option ℕ
bad_part_of image k c =
    if c.routine.front.lane_code || not (list_any (asks_for image k) image.entries) then bad_part (names_of image) (listing_of c) else Some 0

abbrev pub code_fault : RawImage → ℕ → ℕ → CodeRow → Option ObjectFault
code_fault i k at c = option_map (λ part. fault (at + part_at (in_image (length i.codes)) c part) O9) (bad_part_of (tables_of i) k c)

-- ---- entries, each by its code

-- a test of an entry and its code
abbrev pub by_code : Tables → (Listing → Option ObjectFault) → RawEntry → Option ObjectFault
by_code image faults e = elim (code_of image (entry_of e)) as (λ _. Option ObjectFault) [ None ↦ None | Some c ↦ faults c ]

-- kinds 0 to 3 have the code of a function
abbrev pub kind_fault : Tables → ℕ → ℕ → RawEntry → Option ObjectFault
kind_fault image n at e = by_code image (λ c. unless (is_chunk e.front.name.kind || (is_rest e.front.name.kind || is_function_code c)) (fault (at + code_field e) O7)) e

-- what a parameter owes to its type
abbrev pub params_fault : Tables → ℕ → ℕ → RawEntry → Option ObjectFault
params_fault image n at e = by_code image (λ c. unless (not (is_variant e.front.name.kind) || are_typed (param_types c) (map param_of e.front.params)) (fault at O7)) e

-- slots and their targets, two by two, from a place on
abbrev pub target_faults : Tables → RawEntry → Listing → ℕ → List CallSite → List ℕ → Option ObjectFault
target_faults image e c at (s ∷ ss) (t ∷ ts) = or_else (unless (is_call image (entry_of e) c s t) (fault at O7)) (target_faults image e c (at + 4) ss ts)
target_faults image e c at ss ts = None

abbrev pub targets_fault : Tables → ℕ → ℕ → RawEntry → Option ObjectFault
targets_fault image n at e = by_code image (λ c. target_faults image e c (at + targets_field e) c.routine.slots e.targets) e

-- loops and their targets, two by two, from a place on
abbrev pub loop_faults : Tables → Listing → ℕ → List SimdSite → List LoopTargets → Option ObjectFault
loop_faults image c at (l ∷ ls) (t ∷ ts) =
    or_else (unless (is_body_entry image c l is_chunk t.chunk) (fault at O7))
    (or_else (unless (is_body_entry image c l is_rest t.rest) (fault (at + 4) O7))
    (loop_faults image c (at + 8) ls ts))
loop_faults image c at ls ts = None

abbrev pub loops_fault : Tables → ℕ → ℕ → RawEntry → Option ObjectFault
loops_fault image n at e = by_code image (λ c. loop_faults image c (at + loops_field e) c.loops e.loops) e

-- the first fault of a kind among the entries
abbrev pub among_entries : RawImage → (Tables → ℕ → ℕ → RawEntry → Option ObjectFault) → Option ObjectFault
among_entries i faults = first_along entry_length (faults (tables_of i)) 0 (entries_at i) i.entries

-- ---- all of it, in order

-- no circle, chains of at most 64 entries, at most 33554432 cells
abbrev pub is_runnable : Tables → Bool
is_runnable image = list_all (is_within image 64) (entry_numbers image) && nat_le (cells_of image) 33554432

abbrev pub image_faults : RawImage → ℕ → Option ObjectFault
image_faults i end =
    or_else (unless (nat_lt i.main (length i.entries)) (fault main_at O8))
    (or_else (first_along (code_length (in_image (length i.codes))) (code_fault i) 0 (codes_at i) i.codes)
    (or_else (among_entries i kind_fault)
    (or_else (among_entries i params_fault)
    (or_else (among_entries i targets_fault)
    (or_else (among_entries i loops_fault)
    (or_else (unless (is_main (tables_of i) (Some i.main)) (fault main_at O7))
    (unless (is_runnable (tables_of i)) (fault end O9))))))))

-- ---- what bytes are

abbrev pub image_format : Format RawImage
image_format = whole image_faults image_table

abbrev pub table_bytes : RawImage → List ℕ
table_bytes i = (image_table {R = RawImage}).write i

-- the one spelling of an image with a main
abbrev pub image_bytes : Tables → List ℕ
image_bytes t = table_bytes (raw_image t)

-- its fields are in their ranges, and no condition over the tables is broken
abbrev pub IsImage : RawImage → Type 0
IsImage i = Sound image_faults image_table i

-- the bytes are refused first by this rule at this place
abbrev pub ImageRefused : List ℕ → ObjectFault → Type 0
ImageRefused bytes f = judge image_format 0 bytes ≡ Err f
