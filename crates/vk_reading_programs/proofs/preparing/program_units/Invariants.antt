use Rattle.std.proofs.Common.{◌≡◌, List, map, take}
use Rattle.vk_meaning.specs.Programs.{arrays_of}
use Rattle.vk_rules.specs.Verdicts.{judged}
use Rattle.vk_rules_book.specs.Rules.{Subject}
use Rattle.vk_reading_rows.specs.Functions.{ArePlaces}
use Rattle.vk_reading_rows.specs.Numbers.{IsNumbering}
use Rattle.vk_reading_calls.specs.Right.{AreRightIn, subjects_of}
use Rattle.vk_reading_programs.proofs.preparing.program_units.Given as goal

abbrev pub invariant-loop-checked : goal.invariant-loop-checked
invariant-loop-checked l = record {
  units : subjects_of l.list.items ≡ map judged (take l.checked-index l.units);
  right : (program : List Subject) → IsNumbering (arrays_of program) l.numbers → ArePlaces program l.places → AreRightIn program l.list.items;
}
