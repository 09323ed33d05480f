-- Calls by names and by places.
use Rattle.std.proofs.Common.{◌≡◌, ℕ, zero, suc, ◌≤◌, Bool, true, false, List, [], ◌∷◌, length, slice_index_or, Option, Result, refl, sym, ap, subst, ◌∙◌, arith}
use Rattle.vk_meaning.specs.World.{Array}
use Rattle.vk_meaning.specs.Data.{Datum, Action}
use Rattle.vk_meaning.specs.Meaning.{Calls, call_by, call_within, print_first}
use Rattle.vk_reading.specs.declared.held.Held.{Held}
use Rattle.vk_reading.specs.declared.held.Halt.{Halt}
use Rattle.vk_reading.specs.Held.{datum_of}
use Rattle.vk_reading_steps.specs.Runs.{Run, Does}
use Rattle.vk_reading_steps.specs.Settings.{data_of}
use Rattle.vk_reading_rows.specs.declared.functions.FunctionPlace.{FunctionPlace}
use Rattle.vk_reading_rows.specs.Functions.{place_of}
use Rattle.vk_reading_rows.proofs.Defining.{defined_first}
use Rattle.vk_reading_calls.specs.declared.program.Program.{Program}
use Rattle.vk_reading_calls.specs.Views.{called_at, calls_in, defined_within, units_in}

-- `print` looks at its first argument
pub print_any : (args : List Held) (d : Held) → 1 ≤ length args → print_first (datum_of (slice_index_or args 0 d) ∷ []) ≡ print_first (data_of args)
print_any [] d h = absurd (omega (arith, h))
print_any (a ∷ args) d h = refl

-- a call by a place is one by the name that is defined there
pub within : (depth : ℕ) (p : Program) (text : List ℕ) (ds : List Datum) → called_at depth p (place_of (units_in p) text) ds ≡ calls_in depth p text ds
within zero p text ds = refl
within (suc depth) p text ds = ap (λ d. defined_within (suc depth) p d ds) (defined_first (units_in p) text)

module _ {arrays : List Array} {before now : Run} {r : Result Held Halt} (calls : Calls) (text : List ℕ) (ds : List Datum) where
  pub prints : (b : Bool) → b ≡ true → Does arrays before (print_first ds) now r → Does arrays before (call_by calls b text ds) now r
  prints b e h = subst (λ (t : Bool). Does arrays before (call_by calls t text ds) now r) (sym e) h

  pub calls_other : (b : Bool) → b ≡ false → Does arrays before (calls text ds) now r → Does arrays before (call_by calls b text ds) now r
  calls_other b e h = subst (λ (t : Bool). Does arrays before (call_by calls t text ds) now r) (sym e) h

-- what is called where a table says that a name is defined
pub calls_there : (arrays : List Array) (before now : Run) (r : Result Held Halt) (depth : ℕ) (p : Program) (text : List ℕ) (ds : List Datum) (at : Option FunctionPlace) →
    at ≡ place_of (units_in p) text → Does arrays before (called_at depth p at ds) now r → Does arrays before (calls_in depth p text ds) now r
calls_there arrays before now r depth p text ds at e h =
    subst (λ (a : Action). Does arrays before a now r) (ap (λ (o : Option FunctionPlace). called_at depth p o ds) e ∙ within depth p text ds) h
