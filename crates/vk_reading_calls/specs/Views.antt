-- Programs and their calls.
use Rattle.std.specs.Prelude.{ℕ, zero, suc, ◌+◌, List, map, take, Option, Some}
use Rattle.vk_ast.specs.Statements.{StmtTree}
use Rattle.vk_ast.specs.Units.{FunctionTree}
use Rattle.vk_rules_book.specs.Rules.{Subject}
use Rattle.vk_meaning.specs.Data.{Datum, nothing, Action, given}
use Rattle.vk_meaning.specs.Meaning.{Calls, called_where_defined, call_within}
use Rattle.vk_meaning.specs.Programs.{Definition}
use Rattle.vk_reading_rows.specs.declared.functions.FunctionPlace.{FunctionPlace}
use Rattle.vk_reading_rows.specs.Functions.{defined_at}
use Rattle.vk_reading_calls.specs.declared.program.Program.{Program}
use Rattle.vk_reading_calls.specs.declared.program.ProgramUnit.{ProgramUnit}
use Rattle.vk_reading_calls.specs.Right.{subject_of, subjects_of}

-- the units of a program
abbrev pub units_in : Program → List Subject
units_in p = subjects_of p.units.now

-- calls by names, where chains of calls of more than so many functions are cut off
abbrev pub calls_in : (depth : ℕ) → Program → Calls
calls_in depth p = call_within depth (units_in p) p.turns

-- a call of a definition, where chains of calls of more than so many functions are cut off
abbrev pub defined_within : (depth : ℕ) → Program → Option Definition → List Datum → Action
defined_within zero p d = λ ds. given nothing
defined_within (suc depth) p d = called_where_defined (units_in p) p.turns (calls_in depth p) d

-- a call of what is defined there
abbrev pub called_at : (depth : ℕ) → Program → Option FunctionPlace → List Datum → Action
called_at depth p at = defined_within depth p (defined_at (units_in p) at)

-- the definition of a function by the item of a unit with this number
abbrev pub definition_with : ProgramUnit → (item : ℕ) → FunctionTree → StmtTree → Definition
definition_with u item f body = record { unit = subject_of u; items = take (item + 1) (subject_of u).items; function = f; body = body }
