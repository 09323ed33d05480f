-- What a program works on: its arrays, their elements, and what it has done so far (C17 5.1.2.3, 6.2.4).
use Rattle.std.specs.Prelude.{ℕ, ◌==◌, Bool, false, cond, ◌&&◌, List, [], ◌∷◌, ◌++◌, get_or}
use Rattle.std.specs.Prelude.{ℤ}
use Rattle.vk_types.specs.declared.types.Ty.{Ty}
use Rattle.vk_types.specs.declared.types.Ty.TheVariants.{U8}

-- An object of static storage duration (C17 6.2.4): its name, the type of its elements, whether it is `const`, how many elements
-- it has, and the first of them as it begins (C17 6.7.9), as words. The others begin as 0. A scalar object is an array of length 1.
pub record Array : Type 0 where
  pub text : List ℕ
  pub ty : Ty
  pub fixed : Bool
  pub length : ℕ
  pub given : List ℕ

-- an array that is not there has no elements
abbrev pub no_array : Array
no_array = record { text = []; ty = U8; fixed = false; length = 0; given = [] }

-- the array with this number
abbrev pub array_at : List Array → ℕ → Array
array_at arrays a = get_or arrays a no_array

-- the stored values: the word of each element, by the array's number and the element's (C17 6.2.6)
abbrev pub Memory : Type 0
Memory = ℕ → ℕ → ℕ

-- the memory at program startup (C17 5.1.2)
abbrev pub first_memory : List Array → Memory
first_memory arrays a i = get_or (array_at arrays a).given i 0

-- the memory with another word in one element
abbrev pub with_cell : Memory → (array index word : ℕ) → Memory
with_cell m array index word a i = cond ((a == array) && (i == index)) word (m a i)

-- What is seen of a run: a printed number; or one execution of a function's K-th simd loop, of so many iterations, and whether the
-- arrays that its guard compares are different.
pub data Event : Type 0 where
  printed : ℤ → Event
  simd_loop : (function : List ℕ) → (number iterations : ℕ) → (apart : Bool) → Event

-- the state of the execution environment that side effects change (C17 5.1.2.3): memory, and the events so far, the oldest first
pub record World : Type 0 where
  pub memory : Memory
  pub events : List Event

-- with one event more
abbrev pub with_event : World → Event → World
with_event w e = record { memory = w.memory; events = w.events ++ e ∷ [] }

-- with this memory
abbrev pub in_memory : World → Memory → World
in_memory w m = record { memory = m; events = w.events }
