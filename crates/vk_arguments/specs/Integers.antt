-- Integers as the texts of values: decimal digits with an optional `-` in front, in the range of the parameter's type.
use Rattle.std.specs.Prelude.{ℕ, ◌==◌, Bool, List, [], ◌∷◌, cond, Option, Some, None, ℤ, pos, neg_ℤ, if◌then◌else◌}
use Rattle.std.specs.Ordering.{int_eq}
use Rattle.std.specs.Option.{option_and_then, option_map}
use Rattle.std.specs.Str.{all_ascii_digits}
use Rattle.std.specs.Str.Parse.{digits_value}
use Rattle.vk_types.specs.declared.types.Ty.{Ty}
use Rattle.vk_types.specs.declared.types.Word.{Word}
use Rattle.vk_types.specs.Numbers.{word_of, wrap_number}
use Rattle.vk_kinds.specs.declared.heads.CType.{CType}
use Rattle.vk_kinds.specs.declared.heads.CType.TheVariants.{Void, Int, Ptr}

-- the number that a text of one decimal digit or more writes, leading zeros allowed
abbrev pub natural_of : List ℕ → Option ℕ
natural_of [] = None
natural_of (c ∷ cs) = if all_ascii_digits (c ∷ cs) then Some (digits_value 10 (c ∷ cs)) else None

-- the same with an optional `-` in front
abbrev pub integer_of_text : List ℕ → Option ℤ
integer_of_text [] = None
integer_of_text (c ∷ cs) = if c == 45 then option_map (λ n. neg_ℤ (pos n)) (natural_of cs) else option_map pos (natural_of (c ∷ cs))

-- the number is one of the type's range, which wrapping keeps
abbrev pub is_in_range : Ty → ℤ → Bool
is_in_range t z = int_eq (wrap_number t z) z

-- where it is a number of the type
abbrev pub if_in_range : Ty → ℤ → Option ℤ
if_in_range t z = cond (is_in_range t z) (Some z) None

abbrev pub number_in : Ty → List ℕ → Option ℤ
number_in t text = option_and_then (if_in_range t) (integer_of_text text)

abbrev pub word_of_number : ℤ → Word
word_of_number z = record { 0 = word_of z }

-- what a text stands for where integers are the only values: no pointer has one
abbrev pub integer_word : CType → List ℕ → Option Word
integer_word Void text = None
integer_word (Int t) text = option_map word_of_number (number_in t text)
integer_word (Ptr to written) text = None
