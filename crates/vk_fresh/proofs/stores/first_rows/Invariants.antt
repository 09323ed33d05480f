use Rattle.std.proofs.Common.{◌≡◌, map, take}
use Rattle.vk_object.specs.Tables.{array_list_of}
use Rattle.vk_fresh.specs.Stores.{first_words, rows_of}
use Rattle.vk_fresh.proofs.stores.first_rows.Given as goal

-- the arrays so far
abbrev pub invariant-loop-array : goal.invariant-loop-array
invariant-loop-array l = rows_of l.rows.items ≡ map (λ a. first_words (array_list_of a)) (take l.array-index l.arrays)
