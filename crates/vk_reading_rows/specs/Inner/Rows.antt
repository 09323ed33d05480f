-- The first words of arrays, and rows as their types and words.
use Rattle.std.specs.Prelude.{ℕ, ◌-◌, ◌++◌, List, map, length, replicate}
use Rattle.vk_types.specs.declared.types.Ty.{Ty}
use Rattle.vk_types.specs.Numbers.{wrap_number, word_of}
use Rattle.vk_ast.specs.Tree.{Tree}
use Rattle.vk_meaning.specs.World.{Array}
use Rattle.vk_meaning.specs.Programs.{initial_number}
use Rattle.vk_reading.specs.declared.cells.Row.{Row}

-- the words of initialisers
abbrev pub given_words : Ty → List Tree → List ℕ
given_words ty es = map (λ e. word_of (wrap_number ty (initial_number e))) es

pub record FirstCells : Type 0 where
  pub ty : Ty
  pub words : List ℕ

abbrev pub row_seen : Row → FirstCells
row_seen r = record { ty = r.ty; words = map (λ w. w.0) r.words.items }

-- the cells of an array as the program begins
abbrev pub cells_of : Array → FirstCells
cells_of a = record { ty = a.ty; words = a.given ++ replicate (a.length - length a.given) 0 }
