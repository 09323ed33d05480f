-- By what the last array and the last entry are in order.
use Rattle.std.specs.Prelude.{ℕ, List, Option}
use Rattle.std.specs.Option.{option_map}
use Rattle.vk_code_format.specs.Fields.{last_of}
use Rattle.vk_image_format.specs.declared.rows.EntryName.{EntryName}
use Rattle.vk_image_format.specs.declared.rows.RawArray.{RawArray}
use Rattle.vk_image_format.specs.declared.rows.RawEntry.{RawEntry}

abbrev pub last_text : List RawArray → Option (List ℕ)
last_text arrays = option_map (λ a. a.text) (last_of arrays)

abbrev pub last_name : List RawEntry → Option EntryName
last_name entries = option_map (λ e. e.front.name) (last_of entries)
