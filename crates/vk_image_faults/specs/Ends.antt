-- The first fault of tables whose fields are complete.
use Rattle.std.specs.Prelude.{ℕ, Option}
use Rattle.vk_format.specs.declared.rules.ObjectFault.{ObjectFault}
use Rattle.vk_image_format.specs.declared.rows.RawImage.{RawImage}
use Rattle.vk_image_format.specs.Image.{image_faults}

-- by the format of images, where the last field ends at this place
unfoldable pub faults_at : RawImage → ℕ → Option ObjectFault
faults_at i end = image_faults i end
