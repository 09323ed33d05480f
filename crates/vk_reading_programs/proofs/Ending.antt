-- A call of `main` from what the program begins with is its reading.
use Rattle.std.proofs.Common.{◌≡◌, ℕ, codes, List, [], ◌++◌, Option, Some, Result, Ok, Err, refl, sym, ap, subst, ◌∙◌, append-nil}
use Rattle.vk_types.specs.declared.types.Stop.{Stop}
use Rattle.vk_io.specs.Counts.{Rose}
use Rattle.vk_io.specs.Sink.{SinkState, GrowsWithin, Stays}
use Rattle.vk_rules_book.specs.Rules.{Subject}
use Rattle.vk_meaning.specs.World.{World, first_memory}
use Rattle.vk_meaning.specs.Data.{Value, got, halts, Action}
use Rattle.vk_meaning.specs.Programs.{arrays_of}
use Rattle.vk_meaning.specs.Meaning.{stop_of, reading, reading_text}
use Rattle.vk_meaning.specs.declared.reading.RunFail.TheVariants.{Write, Memory}
use Rattle.vk_reading.specs.declared.cells.Row.{Row}
use Rattle.vk_reading.specs.declared.held.Held.{Held}
use Rattle.vk_reading.specs.declared.held.Halt.{Halt}
use Rattle.vk_reading.specs.declared.held.Halt.TheVariants.{Halted, Failed}
use Rattle.vk_reading.specs.Cells.{AreRowsOf, memory_in}
use Rattle.vk_reading.specs.Reading.{end_of, ReadsProgram}
use Rattle.vk_reading_steps.specs.Runs.{Run, run_of, Stands, IsEnd, IsRise, Does}
use Rattle.vk_reading_steps.proofs.Steps.{stays_itself}
use Rattle.vk_reading_rows.specs.declared.functions.FunctionPlace.{FunctionPlace}
use Rattle.vk_reading_rows.specs.Functions.{place_of}
use Rattle.vk_reading_calls.specs.declared.program.Program.{Program}
use Rattle.vk_reading_calls.specs.Views.{called_at, units_in}
use Rattle.vk_reading_calls.proofs.Names.{within}
use Rattle.vk_reading_programs.specs.Prepared.{answer_of}

module _ (units : List Subject) (turns : ℕ) (before : SinkState) (now : Run) (stays : Stays before now.out) where
  answers : (v : Value) (r : Result Held Halt) → reading units turns ≡ v → IsEnd (arrays_of units) before.bytes v now r → IsRise before.faults now.out.faults r →
      ReadsProgram units turns before now.out (answer_of r)
  answers (got d w) (Ok h) e ends rise = (
    record {
      end_is = sym (ap (λ (u : Value). end_of (stop_of u)) e);
      text = λ t. ends.1.text (stays.tells ∙ t) ∙ sym (ap (λ (u : Value). before.bytes ++ reading_text u) e);
    },
    stays,
  )
  answers (halts x w) (Err (Halted stop)) e ends rise = (
    record {
      end_is = sym (ap (λ (u : Value). end_of (stop_of u)) e ∙ ap (λ (y : Stop). end_of (Some y)) ends.0);
      text = λ t. ends.1.text (stays.tells ∙ t) ∙ sym (ap (λ (u : Value). before.bytes ++ reading_text u) e);
    },
    stays,
  )
  answers (got d w) (Err (Failed Write)) e ends rise = (rise, (λ t. subst (λ (u : Value). GrowsWithin before.bytes now.out.bytes (reading_text u)) (sym e) (ends.front (stays.tells ∙ t))), stays)
  answers (halts x w) (Err (Failed Write)) e ends rise = (rise, (λ t. subst (λ (u : Value). GrowsWithin before.bytes now.out.bytes (reading_text u)) (sym e) (ends.front (stays.tells ∙ t))), stays)
  answers (got d w) (Err (Failed Memory)) e ends rise = ((λ t. subst (λ (u : Value). GrowsWithin before.bytes now.out.bytes (reading_text u)) (sym e) (ends.front (stays.tells ∙ t))), stays)
  answers (halts x w) (Err (Failed Memory)) e ends rise = ((λ t. subst (λ (u : Value). GrowsWithin before.bytes now.out.bytes (reading_text u)) (sym e) (ends.front (stays.tells ∙ t))), stays)
  answers (got d w) (Err (Halted stop)) e ends rise = absurd ends
  answers (halts x w) (Ok h) e ends rise = absurd ends

-- the whole
pub reads : (p : Program) (main : Option FunctionPlace) (rows : List Row) (before : SinkState) (now : Run) (r : Result Held Halt) → main ≡ place_of (units_in p) (codes "main") →
    AreRowsOf rows (arrays_of (units_in p)) → memory_in rows ≡ first_memory (arrays_of (units_in p)) → Does (arrays_of (units_in p)) (run_of rows before) (called_at 32 p main []) now r →
    ReadsProgram (units_in p) p.turns before now.out (answer_of r)
reads p main rows before now r is-main are memory does =
    let first : World = record { memory = first_memory (arrays_of (units_in p)); events = [] } in
    let action = ap (λ (m : Option FunctionPlace). called_at 32 p m []) is-main ∙ within 32 p (codes "main") [] in
    answers (units_in p) p.turns before now does.stays (reading (units_in p) p.turns) r refl
    (subst (λ (a : Action). IsEnd (arrays_of (units_in p)) before.bytes (a first) now r) action
    (does.ends before.bytes first (record { rows = are; memory = sym memory; text = λ t. sym (append-nil before.bytes) })))
    does.rise

-- nothing was read
pub nothing_read : (units : List Subject) (turns : ℕ) (out : SinkState) → ReadsProgram units turns out out (Err Memory)
nothing_read units turns out = ((λ t. record { front = []; rest = reading_text (reading units turns); parts = refl; grown = sym (append-nil out.bytes) }), stays_itself out)
