-- Where the next field has bytes it is wanted; where no field is left, it is what all fields say.
use Rattle.std.proofs.Common.{◌≡◌, ℕ, ◌<◌, true, Option, Some, None, is_none, refl, ap, ◌∙◌}
use Rattle.std.proofs.lemmas.Bool.{false≢true}
use Rattle.vk_code.proofs.Faults.{and_left, and_right}
use Rattle.vk_format.specs.declared.rules.ObjectFault.{ObjectFault}
use Rattle.vk_format.specs.Codec.{last}
use Rattle.vk_format.specs.Format.{Whole}
use Rattle.vk_pieces.specs.Fields.{IsField}
use Rattle.vk_image_read.specs.declared.image.ImageFields.{ImageFields}
use Rattle.vk_image_read.specs.Stages.{is_done}
use Rattle.vk_image_read.proofs.Wanted.{image_field, nothing_wanted, whole_image}
use Rattle.vk_image_faults.specs.Ends.{faults_at}
use Rattle.vk_image_faults.proofs.Rules.{same_end}
use Rattle.vk_image_codec.specs.Rows.{is_judged, judged, rows_left, rows_width}

none_is : (o : Option ObjectFault) → is_none o ≡ true → o ≡ None
none_is None h = refl
none_is (Some e) h = absurd (false≢true h)

-- ---- fields

pub field_wanted : (s : ImageFields) (at : ℕ) → 0 < rows_width s → IsField (rows_left s at) (rows_width s)
unfolding rows_left rows_width
field_wanted s at h = image_field s at judged h

-- where all fields have come the tables are judged
pub done_left : (s : ImageFields) (at : ℕ) → is_done s.stage ≡ true → rows_left s at ≡ last (faults_at s.image at) s.image
unfolding rows_left judged
done_left s at h = whole_image s at judged h

pub none_wanted : (s : ImageFields) → is_judged s ≡ true → rows_width s ≡ 0
unfolding rows_width
none_wanted s h = nothing_wanted s (and_left (is_done s.stage) (is_none (faults_at s.image 0)) h)

pub rows_whole : (s : ImageFields) (at : ℕ) → is_judged s ≡ true → rows_left s at ≡ Whole s.image
rows_whole s at h =
    done_left s at (and_left (is_done s.stage) (is_none (faults_at s.image 0)) h)
    ∙ ap (λ o. last o s.image) (none_is (faults_at s.image at) (same_end s.image at 0 ∙ and_right (is_done s.stage) (is_none (faults_at s.image 0)) h))
