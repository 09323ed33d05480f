-- What a call of a function gives (C17 6.5.2.2, 6.9.1), and what a program prints.
use Rattle.std.specs.Prelude.{ℕ, zero, suc, Bool, cond, List, [], ◌∷◌, codes, get_or, filter_map, flat_map, ◌++◌, Option, Some, None, ℤ, pos}
use Rattle.std.specs.Fmt.{signed_decimal}
use Rattle.vk_types.specs.declared.types.Stop.{Stop}
use Rattle.vk_kinds.specs.declared.heads.CType.{CType}
use Rattle.vk_kinds.specs.declared.heads.CType.TheVariants.{Void, Int, Ptr}
use Rattle.vk_rules_book.specs.Scopes.{text_of, is_print}
use Rattle.vk_rules_book.specs.Rules.{Subject}
use Rattle.vk_meaning.specs.World.{Memory, first_memory, Event, printed, simd_loop, with_event, World}
use Rattle.vk_meaning.specs.Data.{Datum, number, nothing, number_in, Value, got, halts, Action, given}
use Rattle.vk_meaning.specs.Expressions.{Context, Variables}
use Rattle.vk_meaning.specs.Statements.{Outcome, fell, broke, continued, returned, stopped, run}
use Rattle.vk_meaning.specs.Programs.{arrays_of, array_number, Definition, definition_of, first_point}

-- ---- calls

-- the built-in `void print(long)`: its argument was converted already
abbrev pub print_first : List Datum → Action
print_first [] w = got nothing w
print_first (d ∷ ds) w = got nothing (with_event w (printed (number_in d)))

-- what a function gives that falls off its end: 0, or nothing where it is void
abbrev pub fallen : CType → Datum
fallen Void = nothing
fallen (Int t) = number (pos 0)
fallen (Ptr to written) = nothing

-- what a function of this result gives whose body ends so
abbrev pub ended : (result : CType) → Outcome → Value
ended t (fell s) = got (fallen t) s.world
ended t (broke s) = got (fallen t) s.world
ended t (continued s) = got (fallen t) s.world
ended t (returned d w) = got d w
ended t (stopped stop w) = halts stop w

-- the parameters have the arguments
abbrev pub first_variables : List Datum → Variables
first_variables ds k = get_or ds k nothing

-- what calls of functions do, by their names
abbrev pub Calls : Type 0
Calls = (text : List ℕ) → List Datum → Action

-- a call by a name of a unit, which is that of the built-in function or not
abbrev pub call_by : Calls → (is_print : Bool) → (text : List ℕ) → List Datum → Action
call_by calls printing text = cond printing print_first (calls text)

-- what the body of a definition needs, where calls do so
abbrev pub context_of : List Subject → (turns : ℕ) → Calls → Definition → Context
context_of units turns calls d = record {
  arrays = arrays_of units;
  array = λ id. array_number (arrays_of units) (text_of d.unit.texts id);
  call = λ id. call_by calls (is_print d.unit.texts id) (text_of d.unit.texts id);
  turns = turns;
  text = text_of d.unit.texts d.function.name;
  result = d.function.result;
}

-- a call of a definition, where its own calls do so
abbrev pub called : List Subject → (turns : ℕ) → Calls → Definition → List Datum → Action
called units turns calls d ds w =
    ended d.function.result (run (context_of units turns calls d) (first_point d) d.body (record { variables = first_variables ds; world = w }))

-- a function that is not defined gives nothing
abbrev pub called_where_defined : List Subject → (turns : ℕ) → Calls → Option Definition → List Datum → Action
called_where_defined units turns calls None = λ ds. given nothing
called_where_defined units turns calls (Some d) = called units turns calls d

-- a call, where chains of calls of more than so many functions are cut off
abbrev pub call_within : (depth : ℕ) → List Subject → (turns : ℕ) → Calls
call_within zero units turns text = λ ds. given nothing
call_within (suc depth) units turns text = called_where_defined units turns (call_within depth units turns) (definition_of units text)

-- a call: no chain of calls of units that link has more than 32 functions
abbrev pub call_of : List Subject → (turns : ℕ) → Calls
call_of units turns = call_within 32 units turns

-- The meaning of a call of a function on these arguments from this memory: its value or stop, the memory that it leaves, and its
-- events.
abbrev pub means : List Subject → (turns : ℕ) → (text : List ℕ) → List Datum → Memory → Value
means units turns text ds m = call_of units turns text ds (record { memory = m; events = [] })

-- ---- what a value tells

abbrev pub world_of : Value → World
world_of (got d w) = w
world_of (halts stop w) = w

abbrev pub stop_of : Value → Option Stop
stop_of (got d w) = None
stop_of (halts stop w) = Some stop

abbrev pub memory_of : Value → Memory
memory_of v = (world_of v).memory

-- ---- the reading of a program

-- a call of `main` at program startup (C17 5.1.2.2.1); its value is dropped
abbrev pub reading : List Subject → (turns : ℕ) → Value
reading units turns = means units turns (codes "main") [] (first_memory (arrays_of units))

abbrev pub printed_number : Event → Option ℤ
printed_number (printed z) = Some z
printed_number (simd_loop function n iterations apart) = None

-- the numbers that were printed
abbrev pub printed_numbers : List Event → List ℤ
printed_numbers events = filter_map printed_number events

-- a number in decimal with a newline
abbrev pub line_of : ℤ → List ℕ
line_of z = signed_decimal z ++ codes "\n"

-- the text of a reading: each printed number on a line
abbrev pub reading_text : Value → List ℕ
reading_text v = flat_map line_of (printed_numbers (world_of v).events)
