-- Rows of words, one for each lane.
use Rattle.std.specs.Prelude.{ℕ, List, Bool, true, ◌≡◌, slice_index_or}
use Rattle.vk_types.specs.declared.types.Ty.{Ty}
use Rattle.vk_types.specs.declared.types.Word.{Word}
use Rattle.vk_types.specs.Numbers.{IsCanonical}

-- the pattern of the word in place i, 0 where there is none
abbrev pub word_in : List Word → ℕ → ℕ
word_in words i = (slice_index_or words i (record { 0 = 0 })).0

-- in the lanes that are on the words are canonical for the type
abbrev pub AreTyped : Ty → (ℕ → Bool) → (ℕ → ℕ) → Type 0
AreTyped t on word = (i : ℕ) → on i ≡ true → IsCanonical t (word i)
