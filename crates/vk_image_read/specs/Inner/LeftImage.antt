-- What is still wanted of an image, by what has come.
use Rattle.std.specs.Prelude.{ℕ, List, [], ◌∷◌, ◌++◌, codes}
use Rattle.vk_object.specs.Images.{is_vl}
use Rattle.vk_format.specs.declared.rules.ObjectRule.TheVariants.{O1, O2, O3}
use Rattle.vk_format.specs.Format.{Format}
use Rattle.vk_format.specs.Codec.{number, judged, many, exactly, exactly_number, read_after}
use Rattle.vk_code_format.specs.declared.rows.CodeRow.{CodeRow}
use Rattle.vk_code_format.specs.Codes.{code, in_image}
use Rattle.vk_code_format.specs.Fields.{target}
use Rattle.vk_code_read.specs.Inner.Left.{Behind}
use Rattle.vk_code_read.specs.Inner.LeftCode.{code_left, code_width}
use Rattle.vk_image_format.specs.declared.rows.RawArray.{RawArray}
use Rattle.vk_image_format.specs.declared.rows.RawEntry.{RawEntry}
use Rattle.vk_image_format.specs.declared.rows.RawImage.{RawImage}
use Rattle.vk_image_format.specs.Image.{array, entry, isa}
use Rattle.vk_image_read.specs.declared.image.ImageFields.{ImageFields}
use Rattle.vk_image_read.specs.declared.image.ImageStage.{ImageStage}
use Rattle.vk_image_read.specs.declared.image.ImageStage.TheVariants.{Magic, Version, TargetOf, Letter, Vl, Main, ArrayCount, Array, CodeCount, Code, EntryCount, Entry, Done}
use Rattle.vk_image_read.specs.Inner.LeftArray.{array_left, array_width}
use Rattle.vk_image_read.specs.Inner.LeftEntry.{among, entry_left, entry_width}

-- ---- entries

abbrev pub after_entries : {R : Type 0} → RawImage → Behind RawImage R → Behind (List RawEntry) R
after_entries i next es at = next (record i { entries = es }) at

abbrev pub from_entries : {R : Type 0} → RawImage → ℕ → Behind RawImage R → Format R
from_entries i at next = (many (number 4) (entry i.codes)).read at (after_entries i next)

-- an entry of so many, with so many after it
abbrev pub after_entry : {R : Type 0} → RawImage → ℕ → ℕ → Behind RawImage R → Behind RawEntry R
after_entry i entries left next e at = read_after (entry i.codes entries) left (i.entries ++ e ∷ []) at (after_entries i next)

-- ---- codes

abbrev pub after_codes : {R : Type 0} → RawImage → Behind RawImage R → Behind (List CodeRow) R
after_codes i next cs at = from_entries (record i { codes = cs }) at next

abbrev pub from_codes : {R : Type 0} → RawImage → ℕ → Behind RawImage R → Format R
from_codes i at next = (many (number 4) (λ n before. code (in_image n))).read at (after_codes i next)

-- a code of so many, with so many after it
abbrev pub after_code : {R : Type 0} → RawImage → ℕ → ℕ → Behind RawImage R → Behind CodeRow R
after_code i count left next c at = read_after (λ before. code (in_image count)) left (i.codes ++ c ∷ []) at (after_codes i next)

-- ---- arrays

abbrev pub after_arrays : {R : Type 0} → RawImage → Behind RawImage R → Behind (List RawArray) R
after_arrays i next xs at = from_codes (record i { arrays = xs }) at next

abbrev pub from_arrays : {R : Type 0} → RawImage → ℕ → Behind RawImage R → Format R
from_arrays i at next = (many (number 4) (λ n. array)).read at (after_arrays i next)

-- an array, with so many after it
abbrev pub after_array : {R : Type 0} → RawImage → ℕ → Behind RawImage R → Behind RawArray R
after_array i left next a at = read_after array left (i.arrays ++ a ∷ []) at (after_arrays i next)

-- ---- the header

abbrev pub from_main : {R : Type 0} → RawImage → ℕ → Behind RawImage R → Format R
from_main i at next = (number 4).read at (λ m end. from_arrays (record i { main = m }) end next)

abbrev pub from_vl : {R : Type 0} → RawImage → ℕ → Behind RawImage R → Format R
from_vl i at next = (judged O3 (is_vl i.isa) (number 2)).read at (λ v end. from_main (record i { vl = v }) end next)

abbrev pub from_letter : {R : Type 0} → RawImage → ℕ → Behind RawImage R → Format R
from_letter i at next = (isa i.target).read at (λ l end. from_vl (record i { isa = l }) end next)

abbrev pub from_target : {R : Type 0} → RawImage → ℕ → Behind RawImage R → Format R
from_target i at next = target.read at (λ t end. from_letter (record i { target = t }) end next)

abbrev pub from_version : {R : Type 0} → RawImage → ℕ → Behind RawImage R → Format R
from_version i at next = (exactly_number O2 2 1).read at (λ u end. from_target i end next)

abbrev pub from_magic : {R : Type 0} → RawImage → ℕ → Behind RawImage R → Format R
from_magic i at next = (exactly O1 (codes "VKLINKED")).read at (λ u end. from_version i end next)

-- ---- by the stage

abbrev pub image_left_at : {R : Type 0} → ImageStage → ImageFields → ℕ → Behind RawImage R → Format R
image_left_at Magic s at next = from_magic s.image at next
image_left_at Version s at next = from_version s.image at next
image_left_at TargetOf s at next = from_target s.image at next
image_left_at Letter s at next = from_letter s.image at next
image_left_at Vl s at next = from_vl s.image at next
image_left_at Main s at next = from_main s.image at next
image_left_at ArrayCount s at next = from_arrays s.image at next
image_left_at (Array left) s at next = array_left s.image.arrays s.array at (after_array s.image left next)
image_left_at CodeCount s at next = from_codes s.image at next
image_left_at (Code left) s at next = code_left s.code at (after_code s.image s.count left next)
image_left_at EntryCount s at next = from_entries s.image at next
image_left_at (Entry left) s at next = entry_left (among s.image.codes s.count s.image.entries) s.entry at (after_entry s.image s.count left next)
image_left_at Done s at next = next s.image at

abbrev pub image_left : {R : Type 0} → ImageFields → ℕ → Behind RawImage R → Format R
image_left s at next = image_left_at s.stage s at next

-- the bytes of the field that comes next
abbrev pub image_width_at : ImageStage → ImageFields → ℕ
image_width_at Magic s = 8
image_width_at Version s = 2
image_width_at TargetOf s = 1
image_width_at Letter s = 1
image_width_at Vl s = 2
image_width_at Main s = 4
image_width_at ArrayCount s = 4
image_width_at (Array left) s = array_width s.array
image_width_at CodeCount s = 4
image_width_at (Code left) s = code_width s.code
image_width_at EntryCount s = 4
image_width_at (Entry left) s = entry_width s.entry
image_width_at Done s = 0

abbrev pub image_width : ImageFields → ℕ
image_width s = image_width_at s.stage s
