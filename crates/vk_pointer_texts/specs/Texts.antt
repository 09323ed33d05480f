-- The texts of pointers: NAME, NAME+K or NAME-K.
use Rattle.std.specs.Prelude.{ℕ, ◌==◌, nat_le, List, [], ◌∷◌, cond, Option, Some, None, ℤ, pos, neg_ℤ}
use Rattle.std.specs.Option.{option_and_then, option_map}
use Rattle.vk_arguments.specs.Integers.{natural_of}

-- what stands before the first byte c of a text, and what behind it
abbrev pub split_at_first : ℕ → List ℕ → Option (List ℕ × List ℕ)
split_at_first c [] = None
split_at_first c (b ∷ bs) = cond (b == c) (Some ([], bs)) (option_map (λ s. (b ∷ s.0, s.1)) (split_at_first c bs))

-- K: the number of one decimal digit or more, leading zeros allowed, at most 2147483647
abbrev pub within : ℕ → Option ℕ
within n = cond (nat_le n 2147483647) (Some n) None

abbrev pub steps_of : List ℕ → Option ℕ
steps_of digits = option_and_then within (natural_of digits)

-- what a text says: a name, and the number of an element, none where what is behind the name is no K
pub record Place : Type 0 where
  pub name : List ℕ
  pub offset : Option ℤ

-- where there is no `+`, with what the first `-` parts
abbrev pub minus_place : List ℕ → Option (List ℕ × List ℕ) → Place
minus_place text (Some s) = record { name = s.0; offset = option_map (λ n. neg_ℤ (pos n)) (steps_of s.1) }
minus_place text None = record { name = text; offset = Some (pos 0) }

-- with what the first `+` parts
abbrev pub plus_place : List ℕ → Option (List ℕ × List ℕ) → Place
plus_place text (Some s) = record { name = s.0; offset = option_map pos (steps_of s.1) }
plus_place text None = minus_place text (split_at_first 45 text)

abbrev pub place_of : List ℕ → Place
place_of text = plus_place text (split_at_first 43 text)
