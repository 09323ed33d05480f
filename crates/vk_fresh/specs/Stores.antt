-- The first words of arrays.
use Rattle.std.specs.Prelude.{◌-◌, List, ◌++◌, length, map, replicate, take}
use Rattle.std.specs.declared.alloc.Global.{Global}
use Rattle.std.specs.declared.vec.Vec.{Vec}
use Rattle.vk_types.specs.declared.types.Word.{Word}
use Rattle.vk_object.specs.Tables.{ArrayLists}

-- the given elements, and 0 for the others
abbrev pub first_words : ArrayLists → List Word
first_words a = take a.length a.elements ++ replicate (a.length - length a.elements) (record { 0 = 0 })

-- rows as lists
abbrev pub rows_of : List (Vec Word Global) → List (List Word)
rows_of rows = map (λ (row : Vec Word Global). row.items) rows
