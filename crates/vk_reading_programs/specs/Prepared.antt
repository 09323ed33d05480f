-- What the reading of a program begins with, and how it ends.
use Rattle.std.specs.Prelude.{◌≡◌, codes, List, Result, Ok, Err}
use Rattle.vk_rules_book.specs.Rules.{Subject}
use Rattle.vk_meaning.specs.World.{first_memory}
use Rattle.vk_meaning.specs.Programs.{arrays_of}
use Rattle.vk_meaning.specs.declared.reading.Reading.{Reading}
use Rattle.vk_meaning.specs.declared.reading.Reading.TheVariants.{Done, Stopped}
use Rattle.vk_meaning.specs.declared.reading.RunFail.{RunFail}
use Rattle.vk_reading.specs.declared.held.Held.{Held}
use Rattle.vk_reading.specs.declared.held.Halt.{Halt}
use Rattle.vk_reading.specs.declared.held.Halt.TheVariants.{Halted, Failed}
use Rattle.vk_reading.specs.Cells.{AreRowsOf, HaveWords, memory_in}
use Rattle.vk_reading_rows.specs.Functions.{place_of}
use Rattle.vk_reading_calls.specs.Right.{AreRight, subjects_of}
use Rattle.vk_reading_programs.specs.declared.preparing.Named.{Named}
use Rattle.vk_reading_programs.specs.declared.preparing.Prepared.{Prepared}

-- these are the units of the program, their tables are right, and `main` is defined there
pub record AreNamed (program : List Subject) (n : Named) : Type 0 where
  pub units : subjects_of n.units.items ≡ program
  pub right : AreRight n.units.items
  pub main : n.main ≡ place_of program (codes "main")

-- and the cells are those of its arrays as they begin
pub record IsPrepared (program : List Subject) (p : Prepared) : Type 0 where
  pub named : AreNamed program p.named
  pub rows : AreRowsOf p.cells.rows.items (arrays_of program)
  pub memory : memory_in p.cells.rows.items ≡ first_memory (arrays_of program)
  pub words : HaveWords p.cells.rows.items

-- how a program ends whose `main` gave this
abbrev pub answer_of : Result Held Halt → Result Reading RunFail
answer_of (Ok h) = Ok Done
answer_of (Err (Halted stop)) = Ok (Stopped stop)
answer_of (Err (Failed fail)) = Err fail
