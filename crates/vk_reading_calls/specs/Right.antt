-- What a program's tables have to say of its units.
use Rattle.std.specs.Prelude.{◌≡◌, ℕ, List, length, map, Option, Some, slice_get}
use Rattle.std.specs.Option.{option_and_then}
use Rattle.vk_ast.specs.declared.names.NameId.{NameId}
use Rattle.vk_ast.specs.Units.{item_of}
use Rattle.vk_rules_book.specs.Scopes.{text_of}
use Rattle.vk_rules_book.specs.Rules.{Subject}
use Rattle.vk_rules_names.specs.Seen.{AreFirst}
use Rattle.vk_meaning.specs.Programs.{arrays_of, array_number}
use Rattle.vk_reading_steps.specs.Settings.{number_in_table, row_in}
use Rattle.vk_reading_rows.specs.declared.functions.FunctionPlace.{FunctionPlace}
use Rattle.vk_reading_rows.specs.Functions.{place_of}
use Rattle.vk_reading_calls.specs.declared.program.ProgramUnit.{ProgramUnit}

-- the units
abbrev pub subject_of : ProgramUnit → Subject
subject_of u = record { items = map item_of u.items.now; texts = u.names.now; target = u.target }

abbrev pub subjects_of : List ProgramUnit → List Subject
subjects_of units = map subject_of units

-- where the table says that the function of a name is defined
abbrev pub place_in : List (Option FunctionPlace) → NameId → Option FunctionPlace
place_in table id = option_and_then (λ o. o) (row_in table id)

-- The tables of a unit have the first declarations of its names, the numbers of the arrays that these are in a program, and where it
-- defines functions of these names.
pub record IsRight (units : List Subject) (u : ProgramUnit) : Type 0 where
  pub first : AreFirst u.items.now u.first.items (length u.items.now)
  pub numbers : (id : NameId) → number_in_table u.numbers.items id ≡ array_number (arrays_of units) (text_of u.names.now id)
  pub functions : (id : NameId) → place_in u.functions.items id ≡ place_of units (text_of u.names.now id)

-- the same of each of some units
abbrev pub AreRightIn : (program : List Subject) → List ProgramUnit → Type 0
AreRightIn program units = (k : ℕ) (u : ProgramUnit) → slice_get units k ≡ Some u → IsRight program u

-- the same of all units of a program
abbrev pub AreRight : List ProgramUnit → Type 0
AreRight units = AreRightIn (subjects_of units) units
