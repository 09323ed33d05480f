-- What the tables of an image stand for, and the tables of an image.
use Rattle.std.specs.Prelude.{ℕ, map, Option, Some, None}
use Rattle.vk_object.specs.Tables.{ArrayLists, EntryLists, Tables}
use Rattle.vk_code_format.specs.Parameters.{param_of, param_row}
use Rattle.vk_code_format.specs.Values.{code_row, listing_of}
use Rattle.vk_image_format.specs.declared.rows.RawArray.{RawArray}
use Rattle.vk_image_format.specs.declared.rows.RawEntry.{RawEntry}
use Rattle.vk_image_format.specs.declared.rows.RawImage.{RawImage}

-- ---- what they stand for

abbrev pub array_of : RawArray → ArrayLists
array_of a = record { text = a.text; ty = a.ty; fixed = a.fixed; length = a.length; elements = a.elements }

abbrev pub entry_of : RawEntry → EntryLists
entry_of e = record {
  text = e.front.name.text;
  kind = e.front.name.kind;
  lanes = e.front.name.lanes;
  code = e.front.code;
  params = map param_of e.front.params;
  targets = e.targets;
  loops = e.loops;
}

abbrev pub tables_of : RawImage → Tables
tables_of i = record {
  target = i.target;
  isa = i.isa;
  vl = i.vl;
  main = Some i.main;
  arrays = map array_of i.arrays;
  codes = map listing_of i.codes;
  entries = map entry_of i.entries;
}

-- ---- the tables of an image

abbrev pub raw_array : ArrayLists → RawArray
raw_array a = record { text = a.text; ty = a.ty; fixed = a.fixed; length = a.length; elements = a.elements }

abbrev pub raw_entry : EntryLists → RawEntry
raw_entry e = record {
  front = record { name = record { text = e.text; kind = e.kind; lanes = e.lanes }; code = e.code; params = map param_row e.params };
  targets = e.targets;
  loops = e.loops;
}

-- an image without a main has no bytes of its own
abbrev pub main_number : Option ℕ → ℕ
main_number None = 0
main_number (Some n) = n

abbrev pub raw_image : Tables → RawImage
raw_image t = record {
  target = t.target;
  isa = t.isa;
  vl = t.vl;
  main = main_number t.main;
  arrays = map raw_array t.arrays;
  codes = map code_row t.codes;
  entries = map raw_entry t.entries;
}
