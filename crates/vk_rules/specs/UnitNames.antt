-- The vector names of a unit: functions in the order of their first declarations, the directives of each in order, then letters,
-- lengths, and N before M.
use Rattle.std.specs.Prelude.{◌≡◌, ℕ, ◌<◌, Contains, false, true, length, List, slice_index}
use Rattle.std.specs.Char.{is_ascii_digit}
use Rattle.std.specs.List.{flat_map, list_all}
use Rattle.vk_names.specs.Spelling.{is_name_byte}
use Rattle.vk_variants.specs.Directives.{function_names}
use Rattle.vk_ast.specs.Units.{FunctionTree}
use Rattle.vk_rules_book.specs.Scopes.{text_of}
use Rattle.vk_rules_book.specs.Signatures.{head_of}
use Rattle.vk_rules_book.specs.Directives.{signatures}
use Rattle.vk_rules_book.specs.Rules.{Subject}
use Rattle.vk_rules.specs.Functions.{functions_of}

-- the names that a function's directives give
abbrev pub names_of_function : Subject → FunctionTree → List (List ℕ)
names_of_function unit f = function_names unit.target (text_of unit.texts f.name) (head_of f) (signatures f)

unfoldable pub unit_names : Subject → List (List ℕ)
unit_names unit = flat_map (names_of_function unit) (functions_of unit)

-- at least one letter, digit or underscore, of which the first is no digit
pub record IsIdentifier (text : List ℕ) : Type 0 where
  pub nonempty : 0 < length text
  pub first : is_ascii_digit (slice_index text 0) ≡ false
  pub bytes : list_all is_name_byte text ≡ true

-- the functions of a unit have identifiers as names
abbrev pub HaveIdentifiers : Subject → Type 0
HaveIdentifiers unit = (f : FunctionTree) → Contains (functions_of unit) f → IsIdentifier (text_of unit.texts f.name)
