-- The reader's cells, and the memory that they stand for.
use Rattle.std.specs.Prelude.{◌≡◌, ℕ, ℤ, pos, negsuc, nat_lt, cond, List, length, Option, Some, None, Result, Ok, Err, slice_get, slice_set}
use Rattle.vk_types.specs.declared.types.Stop.{Stop}
use Rattle.vk_types.specs.declared.types.Stop.TheVariants.{Bounds}
use Rattle.vk_types.specs.declared.types.Word.{Word}
use Rattle.vk_types.specs.Numbers.{IsCanonical}
use Rattle.vk_meaning.specs.World.{Array, array_at, Memory, World}
use Rattle.vk_meaning.specs.Data.{nothing, Value, got, halts}
use Rattle.vk_reading.specs.declared.cells.Row.{Row}

abbrev pub word_in : Option Word → ℕ
word_in None = 0
word_in (Some w) = w.0

abbrev pub cell_in : Option Row → ℕ → ℕ
cell_in None i = 0
cell_in (Some r) i = word_in (slice_get r.words.items i)

-- the memory of some rows; cells that are not there are 0
abbrev pub memory_in : List Row → Memory
memory_in rows a i = cell_in (slice_get rows a) i

-- a row has an array's type and length
abbrev pub IsRowOf : Option Row → Array → Type 0
IsRowOf None x = x.length ≡ 0
IsRowOf (Some r) x = (r.ty ≡ x.ty) × (length r.words.items ≡ x.length)

-- one row for each array, in their order
abbrev pub AreRowsOf : List Row → List Array → Type 0
AreRowsOf rows arrays = (a : ℕ) → IsRowOf (slice_get rows a) (array_at arrays a)

-- the cells have words of the rows' types
abbrev pub HaveWords : List Row → Type 0
HaveWords rows = (a i : ℕ) (r : Row) (w : Word) → slice_get rows a ≡ Some r → slice_get r.words.items i ≡ Some w → IsCanonical r.ty w.0

-- the word at an offset, where there is one
abbrev pub word_at : List Word → (offset : ℤ) → Option Word
word_at words (pos n) = slice_get words n
word_at words (negsuc n) = None

-- the words with another one at an offset, where there is one
abbrev pub put_at : List Word → (offset : ℤ) → Word → Option (List Word)
put_at words (pos n) w = cond (nat_lt n (length words)) (Some (slice_set words n w)) None
put_at words (negsuc n) w = None

-- they were put, or nothing changed and that stops
abbrev pub ArePut : Result (Unit {0}) Stop → Option (List Word) → (before now : List Word) → Type 0
ArePut (Ok done) (Some words) before now = now ≡ words
ArePut (Err stop) None before now = (stop ≡ Bounds) × (now ≡ before)
ArePut _ _ before now = ⊥

-- what a store ends with in this world
abbrev pub done_in : Result (Unit {0}) Stop → World → Value
done_in (Ok done) w = got nothing w
done_in (Err stop) w = halts stop w
