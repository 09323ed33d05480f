-- Room for the frames of calls.
use Rattle.std.specs.Prelude.{ℕ, map}
use Rattle.vk_object.specs.declared.image.Image.{Image}
use Rattle.vk_object.specs.declared.tables.ImageTables.{ImageTables}
use Rattle.vk_object.specs.Images.{chain_cells, entry_numbers, greatest}
use Rattle.vk_object.specs.Tables.{Tables}

-- the cells of the frames along the longest chain of calls
unfoldable pub longest_chain : Tables → ℕ
longest_chain image = greatest (map (chain_cells image 64) (entry_numbers image))

-- an image without what is known of its tables
abbrev pub parts_of : Image → ImageTables
parts_of image = record {
  target = image.target;
  isa = image.isa;
  vl = image.vl;
  main = image.main;
  arrays = image.arrays;
  codes = image.codes;
  entries = image.entries;
}
