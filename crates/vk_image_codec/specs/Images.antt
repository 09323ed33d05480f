-- Tables and images.
use Rattle.std.specs.Prelude.{◌≡◌, Bool}
use Rattle.vk_object.specs.declared.image.Image.{Image}
use Rattle.vk_object.specs.Images.{is_image}
use Rattle.vk_image_format.specs.declared.rows.RawImage.{RawImage}
use Rattle.vk_image_format.specs.Values.{tables_of}
use Rattle.vk_image_write.specs.Lists.{image_lists}

-- the tables stand for an image
unfoldable pub are_valid : RawImage → Bool
are_valid i = is_image (tables_of i)

-- they stand for this one
unfoldable pub StandsFor : RawImage → Image → Type 0
StandsFor i image = tables_of i ≡ image_lists image
