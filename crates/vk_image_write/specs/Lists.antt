-- The lists of an image.
use Rattle.std.specs.Prelude.{map}
use Rattle.vk_code.specs.Listing.{listing_of}
use Rattle.vk_object.specs.declared.image.Image.{Image}
use Rattle.vk_object.specs.Tables.{Tables, array_list_of, entry_list_of}

abbrev pub image_lists : Image → Tables
image_lists i = record { target = i.target; isa = i.isa; vl = i.vl; main = i.main; arrays = map array_list_of i.arrays.items; codes = map listing_of i.codes.items; entries = map entry_list_of i.entries.items }
