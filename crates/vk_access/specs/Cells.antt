-- Words of arrays.
use Rattle.std.specs.Prelude.{ℕ, List, length, Option, Some, None, slice_get, slice_index_or}
use Rattle.std.specs.declared.alloc.Global.{Global}
use Rattle.std.specs.declared.vec.Vec.{Vec}
use Rattle.vk_types.specs.declared.types.Word.{Word}

-- the pattern at a place, 0 where there is none
abbrev pub pattern_in : List Word → ℕ → ℕ
pattern_in words i = (slice_index_or words i (record { 0 = 0 })).0

abbrev pub in_row : Option (Vec Word Global) → ℕ → ℕ
in_row None i = 0
in_row (Some row) i = pattern_in row.items i

-- element i of array a
abbrev pub cells_in : List (Vec Word Global) → ℕ → ℕ → ℕ
cells_in rows a i = in_row (slice_get rows a) i

abbrev pub some_length : Option (Vec Word Global) → ℕ
some_length None = 0
some_length (Some row) = length row.items

-- how many elements array a has
abbrev pub length_in : List (Vec Word Global) → ℕ → ℕ
length_in rows a = some_length (slice_get rows a)
