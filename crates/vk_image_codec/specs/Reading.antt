-- What bytes are.
use Rattle.std.specs.Prelude.{◌≡◌, ℕ, List, Result, Ok, Err}
use Rattle.vk_format.specs.declared.rules.ObjectFail.{ObjectFail}
use Rattle.vk_format.specs.declared.rules.ObjectFail.TheVariants as fails
use Rattle.vk_format.specs.Format.{judge}
use Rattle.vk_object.specs.declared.image.Image.{Image}
use Rattle.vk_image_format.specs.declared.rows.RawImage.{RawImage}
use Rattle.vk_image_codec.specs.Images.{StandsFor}
use Rattle.vk_image_codec.specs.Rows.{rows_format}

-- the answer is the image that these bytes spell, or their first fault; or want of memory
abbrev pub IsRead : Result Image ObjectFail → List ℕ → Type 0
IsRead (Ok image) bytes = (tables : RawImage) × (judge rows_format 0 bytes ≡ Ok tables) × StandsFor tables image
IsRead (Err (fails.Fault e)) bytes = judge rows_format 0 bytes ≡ Err e
IsRead (Err fails.Memory) bytes = Unit {0}
