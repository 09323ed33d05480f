-- What a call on lanes prints of memory: a line for each cell that has another word than before.
use Rattle.std.specs.Prelude.{◌≡◌, ℕ, ◌<◌, ◌==◌, Bool, true, List, [], ◌∷◌, ◌++◌, codes, cond, flat_map, length, ℤ}
use Rattle.std.specs.Fmt.{decimal, signed_decimal}
use Rattle.std.specs.List.{range_with_len}
use Rattle.vk_types.specs.Numbers.{IsCanonical, number_of}
use Rattle.vk_meaning.specs.World.{Array, Memory, array_at}

-- cell NAME[INDEX]: NUMBER
abbrev pub cell_line : (name : List ℕ) → (index : ℕ) → ℤ → List ℕ
cell_line name index z = codes "cell " ++ (name ++ (codes "[" ++ (decimal index ++ (codes "]: " ++ (signed_decimal z ++ codes "\n")))))

-- the line of an element, where its word is another one
abbrev pub changed_line : Array → (old new index : ℕ) → List (List ℕ)
changed_line a old new index = cond (old == new) [] (cell_line a.text index (number_of a.ty new) ∷ [])

-- the lines of an array's elements, in order
abbrev pub array_lines : Array → (old new : ℕ → ℕ) → List (List ℕ)
array_lines a old new = flat_map (λ i. changed_line a (old i) (new i) i) (range_with_len 0 a.length)

-- those of all arrays, in order
abbrev pub cell_lines : List Array → (old new : Memory) → List (List ℕ)
cell_lines arrays old new = flat_map (λ a. array_lines (array_at arrays a) (old a) (new a)) (range_with_len 0 (length arrays))

-- ---- what is asked

-- every cell of the arrays is there
abbrev pub HasAll : List Array → (ℕ → ℕ → Bool) → Type 0
HasAll arrays has = (a i : ℕ) → i < (array_at arrays a).length → has a i ≡ true

-- and its word is one of the array's type
abbrev pub AreCanonical : List Array → Memory → Type 0
AreCanonical arrays m = (a i : ℕ) → i < (array_at arrays a).length → IsCanonical (array_at arrays a).ty (m a i)
