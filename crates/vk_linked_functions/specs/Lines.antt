-- Which functions have directives, in a program of units.
use Rattle.std.specs.Prelude.{ℕ, Bool, true, false, cond, List, [], ◌∷◌, Option, Some, None}
use Rattle.vk_kinds.specs.Sizes.{SignatureTree}
use Rattle.vk_rules_book.specs.Rules.{Subject}
use Rattle.vk_joins.specs.Tables.{Declared, declared_in_unit}

abbrev pub is_some_signature : List SignatureTree → Bool
is_some_signature [] = false
is_some_signature (s ∷ ss) = true

abbrev pub with_lines : Option Declared → Bool
with_lines None = false
with_lines (Some d) = is_some_signature d.signatures

-- some unit declares it with directives
abbrev pub has_lines : List Subject → (text : List ℕ) → Bool
has_lines [] text = false
has_lines (u ∷ us) text = cond (with_lines (declared_in_unit u text)) true (has_lines us text)
