-- Faults of an image by kinds, opaque in the loops over them, and which codes are asked to be lane code.
use Rattle.std.specs.Prelude.{◌≡◌, ℕ, ◌+◌, ◌<◌, ◌==◌, Bool, nat_le, nat_lt, not, ◌&&◌, ◌||◌, List, length, map, Option, Some, slice_get}
use Rattle.std.specs.List.{list_all, list_any, sum_by}
use Rattle.std.specs.Option.{option_map}
use Rattle.vk_code.specs.declared.env.Env.{Env}
use Rattle.vk_code.specs.Listing.{Listing, numbered_code}
use Rattle.vk_code.specs.Tests.{holds}
use Rattle.vk_code.specs.Valid.{environment_of}
use Rattle.vk_object.specs.Images.{cells_of, entry_numbers, is_chunk, is_equal, is_function_code, is_main, is_ordinary, is_rest, is_variant, is_within, names_of, param_types}
use Rattle.vk_object.specs.Parameters.{are_typed}
use Rattle.vk_object.specs.Tables.{Tables}
use Rattle.vk_image.specs.Inner.Rounds.{is_told}
use Rattle.vk_format.specs.declared.rules.ObjectFault.{ObjectFault}
use Rattle.vk_format.specs.declared.rules.ObjectRule.TheVariants.{O7, O8, O9}
use Rattle.vk_format.specs.Format.{fault}
use Rattle.vk_code_format.specs.declared.rows.CodeRow.{CodeRow}
use Rattle.vk_code_format.specs.Codes.{Place, in_image}
use Rattle.vk_code_format.specs.Fields.{first_along, or_else, unless}
use Rattle.vk_code_format.specs.Parameters.{param_of}
use Rattle.vk_code_format.specs.Places.{code_length, part_at}
use Rattle.vk_code_format.specs.Values.{site_of}
use Rattle.vk_image_format.specs.declared.rows.RawEntry.{RawEntry}
use Rattle.vk_image_format.specs.declared.rows.RawImage.{RawImage}
use Rattle.vk_image_format.specs.Image.{among_entries, asks_for, bad_part_of, by_code, code_fault, code_field, codes_at, entry_length, kind_fault, loop_faults, loops_fault, loops_field, main_at, params_fault, target_faults, targets_fault, targets_field}
use Rattle.vk_image_format.specs.Values.{tables_of}
use Rattle.vk_image_faults.specs.declared.entries.EntryCheck.{EntryCheck}
use Rattle.vk_image_faults.specs.declared.entries.EntryCheck.TheVariants as checks

-- ---- codes that are asked to be lane code

abbrev pub asks_itself : RawEntry → ℕ → Bool
asks_itself e k = not (is_ordinary e.front.name.kind) && (e.front.code == k)

abbrev pub names_body : CodeRow → ℕ → Bool
names_body c k = list_any (λ l. holds (is_equal k) (numbered_code (site_of l).body)) c.loops

abbrev pub asks_by_loops : List CodeRow → RawEntry → ℕ → Bool
asks_by_loops codes e k = holds (λ c. names_body c k) (slice_get codes e.front.code)

abbrev pub asks : List CodeRow → ℕ → RawEntry → Bool
asks codes k e = asks_itself e k || asks_by_loops codes e k

-- ---- codes

-- what code may name is the image's
abbrev pub Knows : RawImage → Env → Type 0
Knows i env = environment_of env ≡ names_of (tables_of i)

-- the row says which codes are asked to be lane code
abbrev pub are_asked : RawImage → List Bool → List CodeRow → Type 0
are_asked i asked rows = (k : ℕ) → k < length rows → is_told asked k ≡ list_any (asks_for (tables_of i) k) (tables_of i).entries

unfoldable pub code_size : Place → CodeRow → ℕ
code_size place c = code_length place c

unfoldable pub fault_in_code : RawImage → Place → ℕ → ℕ → CodeRow → Option ObjectFault
fault_in_code i place k at c = option_map (λ part. fault (at + part_at place c part) O9) (bad_part_of (tables_of i) k c)

-- where the first entry begins
abbrev pub entries_place : RawImage → Place → ℕ
entries_place i place = codes_at i + sum_by (code_size place) i.codes + 4

-- ---- entries

unfoldable pub entry_size : RawEntry → ℕ
entry_size e = entry_length e

-- what is broken of an entry at a place, by its code
abbrev pub broken : EntryCheck → Tables → Listing → ℕ → RawEntry → Option ObjectFault
broken checks.Kind image c at e = unless (is_chunk e.front.name.kind || (is_rest e.front.name.kind || is_function_code c)) (fault (at + code_field e) O7)
broken checks.Params image c at e = unless (not (is_variant e.front.name.kind) || are_typed (param_types c) (map param_of e.front.params)) (fault at O7)
broken checks.Targets image c at e = target_faults image e c (at + targets_field e) c.routine.slots e.targets
broken checks.Loops image c at e = loop_faults image c (at + loops_field e) c.loops e.loops

unfoldable pub fault_in_entry : EntryCheck → RawImage → ℕ → ℕ → RawEntry → Option ObjectFault
fault_in_entry check i n at e = by_code (tables_of i) (λ c. broken check (tables_of i) c at e) e

-- the same, as the format has it
abbrev pub faults_of : EntryCheck → Tables → ℕ → ℕ → RawEntry → Option ObjectFault
faults_of checks.Kind = kind_fault
faults_of checks.Params = params_fault
faults_of checks.Targets = targets_fault
faults_of checks.Loops = loops_fault

-- ---- conditions, opaque where they are joined: that of 64 entries of a chain would unfold

unfoldable pub among_codes : RawImage → Option ObjectFault
among_codes i = first_along (code_length (in_image (length i.codes))) (code_fault i) 0 (codes_at i) i.codes

unfoldable pub among : EntryCheck → RawImage → Option ObjectFault
among check i = among_entries i (faults_of check)

unfoldable pub has_main : RawImage → Bool
has_main i = is_main (tables_of i) (Some i.main)

unfoldable pub has_short_chains : RawImage → Bool
has_short_chains i = list_all (is_within (tables_of i) 64) (entry_numbers (tables_of i))

unfoldable pub has_few_cells : RawImage → Bool
has_few_cells i = nat_le (cells_of (tables_of i)) 33554432

abbrev pub run_faults : RawImage → ℕ → Option ObjectFault
run_faults i end = or_else (unless (has_main i) (fault main_at O7)) (unless (has_short_chains i && has_few_cells i) (fault end O9))

abbrev pub link_faults : RawImage → ℕ → Option ObjectFault
link_faults i end = or_else (among checks.Targets i) (or_else (among checks.Loops i) (run_faults i end))

abbrev pub entry_faults : RawImage → ℕ → Option ObjectFault
entry_faults i end = or_else (among checks.Kind i) (or_else (among checks.Params i) (link_faults i end))

-- all of them
abbrev pub all_faults : RawImage → ℕ → Option ObjectFault
all_faults i end = or_else (unless (nat_lt i.main (length i.entries)) (fault main_at O8)) (or_else (among_codes i) (entry_faults i end))
