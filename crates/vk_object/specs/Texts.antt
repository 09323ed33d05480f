-- Texts of names, lists in order, and the given elements of an array.
use Rattle.std.specs.Prelude.{ℕ, ◌==◌, nat_lt, nat_le, Bool, true, false, not, ◌&&◌, ◌||◌, List, [], ◌∷◌, length}
use Rattle.std.specs.List.{list_all}
use Rattle.vk_types.specs.declared.types.Ty.{Ty}
use Rattle.vk_types.specs.declared.types.Word.{Word}
use Rattle.vk_code.specs.Valid.{is_canonical}

abbrev pub between : ℕ → ℕ → ℕ → Bool
between low high n = nat_le low n && nat_le n high

abbrev pub is_digit : ℕ → Bool
is_digit b = between 48 57 b

-- a letter, a digit or an underscore
abbrev pub is_word : ℕ → Bool
is_word b = between 65 90 b || between 97 122 b || is_digit b || (b == 95)

-- an identifier of at most 1024 bytes
abbrev pub is_identifier : List ℕ → Bool
is_identifier [] = false
is_identifier (b ∷ bs) = is_word b && not (is_digit b) && list_all is_word bs && nat_le (length bs) 1023

-- a text before another: by bytes, and before the longer ones that begin with it
abbrev pub is_before : List ℕ → List ℕ → Bool
is_before [] [] = false
is_before [] (y ∷ ys) = true
is_before (x ∷ xs) [] = false
is_before (x ∷ xs) (y ∷ ys) = nat_lt x y || ((x == y) && is_before xs ys)

-- each member is before the next
abbrev pub ascend : {A : Type 0} → (A → A → Bool) → List A → Bool
ascend before [] = true
ascend before (x ∷ []) = true
ascend before (x ∷ y ∷ ys) = before x y && ascend before (y ∷ ys)

-- the last given element is not 0
abbrev pub ends_well : List Word → Bool
ends_well [] = true
ends_well (x ∷ []) = not (x.0 == 0)
ends_well (x ∷ y ∷ ys) = ends_well (y ∷ ys)

abbrev pub is_word_of : Ty → Word → Bool
is_word_of t w = is_canonical t w.0

-- given elements: at most so many, each of the type
abbrev pub are_given : Ty → ℕ → List Word → Bool
are_given t count elements = nat_le (length elements) count && list_all (is_word_of t) elements && ends_well elements
