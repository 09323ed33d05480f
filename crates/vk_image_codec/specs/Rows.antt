-- The tables of an image, and what is judged once the last field is complete.
use Rattle.std.specs.Prelude.{ℕ, Bool, ◌&&◌, is_none}
use Rattle.vk_format.specs.Format.{Format}
use Rattle.vk_format.specs.Codec.{last}
use Rattle.vk_image_faults.specs.Ends.{faults_at}
use Rattle.vk_image_format.specs.declared.rows.RawImage.{RawImage}
use Rattle.vk_image_format.specs.Image.{image_format}
use Rattle.vk_image_read.specs.declared.image.ImageFields.{ImageFields}
use Rattle.vk_image_read.specs.Inner.LeftImage.{image_left, image_width}
use Rattle.vk_image_read.specs.Stages.{is_done}

-- what bytes are, by the format of images
unfoldable pub rows_format : Format RawImage
rows_format = image_format

-- tables are an image's where no condition over them is broken
unfoldable pub judged : RawImage → ℕ → Format RawImage
judged i end = last (faults_at i end) i

-- what is still wanted
unfoldable pub rows_left : ImageFields → ℕ → Format RawImage
rows_left s at = image_left s at judged

-- the bytes of the field that comes next
unfoldable pub rows_width : ImageFields → ℕ
rows_width s = image_width s

-- whether all fields have come, and no condition over the tables is broken
abbrev pub is_judged : ImageFields → Bool
is_judged s = is_done s.stage && is_none (faults_at s.image 0)
