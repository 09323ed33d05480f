-- What a map of files holds.
use Rattle.std.specs.Prelude.{ℕ, List, Option, option_map}
use Rattle.std.specs.BTreeMap.{get_by_text}
use Rattle.vk_io.specs.declared.file_map.FileMap.{FileMap}

-- the bytes of a name's file
abbrev pub contents : FileMap → List ℕ → Option (List ℕ)
contents map q = option_map (λ file. file.items) (get_by_text map.files q)
