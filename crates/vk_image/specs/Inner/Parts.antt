-- Parts of the conditions on an image.
use Rattle.std.specs.Prelude.{Bool, ◌&&◌}
use Rattle.std.specs.List.{list_all}
use Rattle.vk_object.specs.Images.{array_before, entry_before, is_array, is_entry, is_letter, is_main, is_row, is_some_entry, is_vl}
use Rattle.vk_object.specs.Tables.{Tables}
use Rattle.vk_object.specs.Texts.{ascend}

abbrev pub has_shape : Tables → Bool
has_shape image =
    is_letter image.target image.isa && is_vl image.isa image.vl
    && list_all is_array image.arrays && ascend array_before image.arrays
    && list_all (is_row image) image.entries && ascend entry_before image.entries && is_some_entry image image.main

abbrev pub are_all_linked : Tables → Bool
are_all_linked image = list_all (is_entry image) image.entries && is_main image image.main
