-- Pointers and integers as the values of arguments.
use Rattle.std.specs.Prelude.{ℕ, Bool, cond, not, ◌&&◌, List, Option, Some, None, ℤ, position, bytes_eq}
use denote.Enum.Bare.{sameb}
use Rattle.vk_types.specs.declared.types.Ty.{Ty}
use Rattle.vk_types.specs.contracts.types.Ty.{the_type}
use Rattle.vk_types.specs.declared.types.Word.{Word}
use Rattle.vk_kinds.specs.declared.heads.CType.{CType}
use Rattle.vk_kinds.specs.declared.heads.CType.TheVariants.{Void, Int, Ptr}
use Rattle.vk_meaning.specs.World.{Array, array_at}
use Rattle.vk_meaning.specs.Data.{pointer}
use Rattle.vk_meaning.specs.Lanes.{word_of_datum}
use Rattle.vk_arguments.specs.Integers.{integer_word}
use Rattle.vk_pointer_texts.specs.Texts.{place_of}

-- a pointer to elements of this type may point into the array: they have the type, and it is not `const` where they may be written
abbrev pub may_point : Array → (to : Ty) → (written : Bool) → Bool
may_point a to written = sameb the_type a.ty to && not (written && a.fixed)

-- the word of the pointer, where it may
abbrev pub word_at : Bool → (array : ℕ) → (offset : ℤ) → Option Word
word_at may array offset = cond may (Some (record { 0 = word_of_datum (pointer array offset) })) None

-- the word of the pointer to an element of the array with this number
abbrev pub pointer_to : List Array → Ty → (written : Bool) → (array : Option ℕ) → (offset : Option ℤ) → Option Word
pointer_to arrays to written None offset = None
pointer_to arrays to written (Some a) None = None
pointer_to arrays to written (Some a) (Some z) = word_at (may_point (array_at arrays a) to written) a z

-- the number of the first array with this name
abbrev pub number_of_array : List Array → List ℕ → Option ℕ
number_of_array arrays text = position (λ a. bytes_eq a.text text) arrays

-- The word that the text of one value stands for where a parameter has this type: an integer in its range, or a pointer into one of
-- these arrays. None where it is no such value.
abbrev pub pointer_value : List Array → CType → List ℕ → Option Word
pointer_value arrays Void text = None
pointer_value arrays (Int t) text = integer_word (Int t) text
pointer_value arrays (Ptr to written) text = pointer_to arrays to written (number_of_array arrays (place_of text).name) (place_of text).offset
