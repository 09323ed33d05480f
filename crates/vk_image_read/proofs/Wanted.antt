-- Where a field of an image is wanted, it is one of so many bytes.
use Rattle.std.proofs.Common.{◌≡◌, ℕ, zero, suc, ◌<◌, true, List, refl, arith}
use Rattle.std.proofs.lemmas.Bool.{false≢true}
use Rattle.vk_code_read.specs.Inner.Left.{Behind}
use Rattle.vk_pieces.specs.Fields.{IsField}
use Rattle.vk_pieces.proofs.Codes.{code_field}
use Rattle.vk_image_format.specs.declared.rows.RawArray.{RawArray}
use Rattle.vk_image_format.specs.declared.rows.RawEntry.{RawEntry}
use Rattle.vk_image_format.specs.declared.rows.RawImage.{RawImage}
use Rattle.vk_image_read.specs.declared.array.ArrayFeed.{ArrayFeed}
use Rattle.vk_image_read.specs.declared.array.ArrayStage.{ArrayStage}
use Rattle.vk_image_read.specs.declared.array.ArrayStage.TheVariants as arrays
use Rattle.vk_image_read.specs.declared.entry.EntryFeed.{EntryFeed}
use Rattle.vk_image_read.specs.declared.entry.EntryStage.{EntryStage}
use Rattle.vk_image_read.specs.declared.entry.EntryStage.TheVariants as entries
use Rattle.vk_image_read.specs.declared.image.ImageFields.{ImageFields}
use Rattle.vk_image_read.specs.declared.image.ImageStage.{ImageStage}
use Rattle.vk_image_read.specs.declared.image.ImageStage.TheVariants as images
use Rattle.vk_image_read.specs.Inner.LeftArray.{array_left_at, array_width_at}
use Rattle.vk_image_read.specs.Inner.LeftEntry.{Among, among, entry_left_at, entry_width_at}
use Rattle.vk_image_read.specs.Inner.LeftImage.{after_array, after_code, after_entry, image_left, image_left_at, image_width, image_width_at}
use Rattle.vk_image_read.specs.Stages.{is_done}

array_field : {R : Type 0} (st : ArrayStage) (before : List RawArray) (s : ArrayFeed) (at : ℕ) (next : Behind RawArray R) → 0 < array_width_at st s.array
    → IsField (array_left_at st before s at next) (array_width_at st s.array)
array_field arrays.TextLength before s at next h = refl
array_field (arrays.Text zero) before s at next h = absurd (omega (arith, h))
array_field (arrays.Text (suc n)) before s at next h = refl
array_field arrays.TypeOf before s at next h = refl
array_field arrays.Fixed before s at next h = refl
array_field arrays.Length before s at next h = refl
array_field arrays.Given before s at next h = refl
array_field (arrays.Element left) before s at next h = refl
array_field arrays.Done before s at next h = absurd (omega (arith, h))

entry_field : {R : Type 0} (st : EntryStage) (a : Among) (s : EntryFeed) (at : ℕ) (next : Behind RawEntry R) → 0 < entry_width_at st
    → IsField (entry_left_at st a s at next) (entry_width_at st)
entry_field entries.TextLength a s at next h = refl
entry_field (entries.Text zero) a s at next h = absurd (omega (arith, h))
entry_field (entries.Text (suc n)) a s at next h = refl
entry_field entries.Kind a s at next h = refl
entry_field entries.Lanes a s at next h = refl
entry_field entries.CodeOf a s at next h = refl
entry_field (entries.ParamKind left) a s at next h = refl
entry_field (entries.Value left kind) a s at next h = refl
entry_field (entries.Align left kind value) a s at next h = refl
entry_field (entries.Target left) a s at next h = refl
entry_field (entries.Chunk left) a s at next h = refl
entry_field (entries.Rest left chunk) a s at next h = refl
entry_field entries.Done a s at next h = absurd (omega (arith, h))

image_field_at : {R : Type 0} (st : ImageStage) (s : ImageFields) (at : ℕ) (next : Behind RawImage R) → 0 < image_width_at st s → IsField (image_left_at st s at next) (image_width_at st s)
image_field_at images.Magic s at next h = refl
image_field_at images.Version s at next h = refl
image_field_at images.TargetOf s at next h = refl
image_field_at images.Letter s at next h = refl
image_field_at images.Vl s at next h = refl
image_field_at images.Main s at next h = refl
image_field_at images.ArrayCount s at next h = refl
image_field_at (images.Array left) s at next h = array_field s.array.stage s.image.arrays s.array at (after_array s.image left next) h
image_field_at images.CodeCount s at next h = refl
image_field_at (images.Code left) s at next h = code_field s.code at (after_code s.image s.count left next) h
image_field_at images.EntryCount s at next h = refl
image_field_at (images.Entry left) s at next h = entry_field s.entry.stage (among s.image.codes s.count s.image.entries) s.entry at (after_entry s.image s.count left next) h
image_field_at images.Done s at next h = absurd (omega (arith, h))

pub image_field : {R : Type 0} (s : ImageFields) (at : ℕ) (next : Behind RawImage R) → 0 < image_width s → IsField (image_left s at next) (image_width s)
image_field s at next h = image_field_at s.stage s at next h

nothing_at : (st : ImageStage) (s : ImageFields) → is_done st ≡ true → image_width_at st s ≡ 0
nothing_at images.Magic s h = absurd (false≢true h)
nothing_at images.Version s h = absurd (false≢true h)
nothing_at images.TargetOf s h = absurd (false≢true h)
nothing_at images.Letter s h = absurd (false≢true h)
nothing_at images.Vl s h = absurd (false≢true h)
nothing_at images.Main s h = absurd (false≢true h)
nothing_at images.ArrayCount s h = absurd (false≢true h)
nothing_at (images.Array left) s h = absurd (false≢true h)
nothing_at images.CodeCount s h = absurd (false≢true h)
nothing_at (images.Code left) s h = absurd (false≢true h)
nothing_at images.EntryCount s h = absurd (false≢true h)
nothing_at (images.Entry left) s h = absurd (false≢true h)
nothing_at images.Done s h = refl

-- where no field is left none is wanted
pub nothing_wanted : (s : ImageFields) → is_done s.stage ≡ true → image_width s ≡ 0
nothing_wanted s h = nothing_at s.stage s h

whole_at : {R : Type 0} (st : ImageStage) (s : ImageFields) (at : ℕ) (next : Behind RawImage R) → is_done st ≡ true → image_left_at st s at next ≡ next s.image at
whole_at images.Magic s at next h = absurd (false≢true h)
whole_at images.Version s at next h = absurd (false≢true h)
whole_at images.TargetOf s at next h = absurd (false≢true h)
whole_at images.Letter s at next h = absurd (false≢true h)
whole_at images.Vl s at next h = absurd (false≢true h)
whole_at images.Main s at next h = absurd (false≢true h)
whole_at images.ArrayCount s at next h = absurd (false≢true h)
whole_at (images.Array left) s at next h = absurd (false≢true h)
whole_at images.CodeCount s at next h = absurd (false≢true h)
whole_at (images.Code left) s at next h = absurd (false≢true h)
whole_at images.EntryCount s at next h = absurd (false≢true h)
whole_at (images.Entry left) s at next h = absurd (false≢true h)
whole_at images.Done s at next h = refl

-- and it is what the fields say
pub whole_image : {R : Type 0} (s : ImageFields) (at : ℕ) (next : Behind RawImage R) → is_done s.stage ≡ true → image_left s at next ≡ next s.image at
whole_image s at next h = whole_at s.stage s at next h
