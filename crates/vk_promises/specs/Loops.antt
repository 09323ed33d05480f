-- The bodies of simd loops, as the maker of the code around them sees them (OpenMP 5.2, 10.4).
use Rattle.std.specs.Prelude.{◌≡◌, ◌≢◌, ◌<◌, ℕ, ◌+◌, ◌/◌, ◌%◌, nat_lt, Bool, true, cond, List, [], map, slice_get, Option, Some, None, ℤ, pos, ◌+ℤ◌}
use Rattle.vk_types.specs.Numbers.{word_of}
use Rattle.vk_kinds.specs.declared.heads.CType.{CType}
use Rattle.vk_kinds.specs.declared.heads.CType.TheVariants.{Void}
use Rattle.vk_rules_book.specs.declared.contexts.Binding.{Binding}
use Rattle.vk_meaning.specs.World.{Array, Memory as Cells, simd_loop}
use Rattle.vk_meaning.specs.Data.{Datum, number, pointer, nothing, Value, got, halts}
use Rattle.vk_meaning.specs.Expressions.{Context, Variables, with_datum}
use Rattle.vk_meaning.specs.Guards.{Base, object, parameter, base_array, guard_holds, guard_pairs, stored_bases}
use Rattle.vk_meaning.specs.Lanes.{IsPointed, IsWord, Words, datum_of}
use Rattle.vk_meaning.specs.LaneWise.{AreLanesOf}
use Rattle.vk_meaning.specs.Statements.{Outcome, fell, broke, continued, returned, stopped, run}
use Rattle.vk_object.specs.declared.tables.LoopTargets.{LoopTargets}
use Rattle.vk_object.specs.Machine.{Called, Given}
use Rattle.vk_object.specs.Memory.{Memory, Event as Logged, printed as prints_of, calls_of}
use Rattle.vk_object.specs.Tables.{EntryLists}
use Rattle.vk_lane.specs.Entries.{OwnsElement, Stored}
use Rattle.vk_lane.specs.Runs.{Bodies, one_lane}
use Rattle.vk_sites.specs.Captures.{captures_of}
use Rattle.vk_sites.specs.Loops.{LoopText, variable_number}
use Rattle.vk_promises.specs.Settings.{Setting}

-- ---- what one iteration means

-- an iteration ends with `continue` or at the body's end, or it stops
abbrev pub iteration_end : Outcome → Value
iteration_end (fell s) = got nothing s.world
iteration_end (broke s) = got nothing s.world
iteration_end (continued s) = got nothing s.world
iteration_end (returned d w) = got nothing w
iteration_end (stopped x w) = halts x w

-- where the variables outside have these data, and the loop's own this number
abbrev pub iteration : Context → LoopText → Variables → ℤ → Cells → Value
iteration c l vs i m =
    iteration_end (run c l.inside l.body (record { variables = with_datum vs (variable_number l) (number i); world = record { memory = m; events = [] } }))

-- ---- what a body is given

abbrev pub type_of_binding : Option Binding → CType
type_of_binding None = Void
type_of_binding (Some b) = b.ctype

-- in every lane the captured words are those of the data, typed; the variables from outside are these bindings
abbrev pub AreCaptured : List Array → (outside : List Binding) → (captures : List ℕ) → Variables → Words → (lanes : ℕ) → Type 0
AreCaptured arrays outside ks vs words lanes =
    (p k j : ℕ) (b : Binding) → j < lanes → slice_get ks p ≡ Some k → slice_get outside k ≡ Some b →
    IsWord b.ctype (words (p + 1) j) × (datum_of b.ctype (words (p + 1) j) ≡ vs k) × IsPointed arrays b.ctype (vs k)

-- lane j has iteration low + j
abbrev pub AreNumbered : (low : ℤ) → Words → (lanes : ℕ) → Type 0
AreNumbered low words lanes = (j : ℕ) → j < lanes → words 0 j ≡ word_of (low +ℤ pos j)

-- where a base begins: an object at its first element, a pointer parameter where it points
abbrev pub offset_in : Datum → ℤ
offset_in (number z) = pos 0
offset_in (pointer array offset) = offset
offset_in nothing = pos 0

abbrev pub base_offset : Variables → Base → ℤ
base_offset vs (object id) = pos 0
base_offset vs (parameter k) = offset_in (vs k)

abbrev pub stored_in : Context → Variables → Base → Stored
stored_in c vs b = record { array = base_array c vs b; offset = base_offset vs b }

-- what the loop stores through
abbrev pub stores_of : Context → LoopText → Variables → List Stored
stores_of c l vs = map (stored_in c vs) (stored_bases l.inside l.body)

-- ---- what the bodies do

-- one call of the body is counted, and nothing printed; other bodies are not called
pub record IsCounted (b : Bodies) (entry : ℕ) (before after : List Logged) : Type 0 where
  pub prints : prints_of after ≡ prints_of before
  pub itself : calls_of entry after ≡ calls_of entry before + 1
  pub others : (k : ℕ) → b.is_body k ≡ true → k ≢ entry → calls_of k after ≡ calls_of k before

-- the chunk: where the guard holds, every lane does its iteration
abbrev pub RunsChunk : Context → Bodies → LoopText → (lanes entry : ℕ) → Called → Type 0
RunsChunk c b l lanes entry called =
    (m : Memory) (vs : Variables) (low : ℤ) (words : Words) → AreNumbered low words lanes →
    AreCaptured c.arrays l.outside.scope.inner (captures_of l) vs words lanes → guard_holds c vs (guard_pairs l.inside l.body) ≡ true →
    let g : Given = called (λ j. nat_lt j lanes) words m in
    AreLanesOf (λ j. OwnsElement c.arrays (stores_of c l vs) (low +ℤ pos j)) (λ j. iteration c l vs (low +ℤ pos j) m.cells) lanes (λ j. nat_lt j lanes)
    m.cells (λ j. 0) (λ j. 0) g.stop g.mem.cells × IsCounted b entry m.log g.mem.log

abbrev pub EndsIteration : Value → Given → Type 0
EndsIteration (got d w) g = (g.stop 0 ≡ None) × ((a i : ℕ) → g.mem.cells a i ≡ w.memory a i)
EndsIteration (halts x w) g = g.stop 0 ≡ Some x

-- the rest: one lane does one iteration, whatever the arrays
abbrev pub RunsRest : Context → Bodies → LoopText → (entry : ℕ) → Called → Type 0
RunsRest c b l entry called =
    (m : Memory) (vs : Variables) (low : ℤ) (words : Words) → AreNumbered low words 1 →
    AreCaptured c.arrays l.outside.scope.inner (captures_of l) vs words 1 →
    let g : Given = called one_lane words m in
    EndsIteration (iteration c l vs low m.cells) g × IsCounted b entry m.log g.mem.log

-- of a function's simd loop with this number from 0, and each execution of it counts so
pub record LoopIsRight (t : Setting) (text : List ℕ) (l : LoopText) (loop : ℕ) : Type 0 where
  pub targets : LoopTargets
  pub are : slice_get t.site.entry.loops loop ≡ Some targets
  pub entry : EntryLists
  pub is : slice_get t.site.entries targets.chunk ≡ Some entry
  pub some : 0 < entry.lanes
  pub chunk : RunsChunk t.context t.bodies l entry.lanes targets.chunk (t.site.calls targets.chunk)
  pub rest : RunsRest t.context t.bodies l targets.rest (t.site.calls targets.rest)
  pub chunk_counts : (n : ℕ) (apart : Bool) → t.bodies.calls targets.chunk (simd_loop text (loop + 1) n apart) ≡ cond apart (n / entry.lanes) 0
  pub rest_counts : (n : ℕ) (apart : Bool) → t.bodies.calls targets.rest (simd_loop text (loop + 1) n apart) ≡ cond apart (n % entry.lanes) n
  pub other_counts : (other n : ℕ) (apart : Bool) → other ≢ targets.chunk → other ≢ targets.rest → t.bodies.calls other (simd_loop text (loop + 1) n apart) ≡ 0
