-- The run of a body does what its call means.
use Rattle.std.proofs.Common.{◌≡◌, ℕ, zero, suc, List, [], ◌∷◌, get_or, map, slice_get, Option, Some, None, Result, Ok, Err, refl, sym, ap, subst, ◌∙◌}
use Rattle.vk_types.specs.declared.types.Stop.{Stop}
use Rattle.vk_kinds.specs.declared.heads.CType.{CType}
use Rattle.vk_ast.specs.declared.names.NameId.{NameId}
use Rattle.vk_rules_book.specs.Rules.{Subject}
use Rattle.vk_rules_book.specs.Scopes.{is_print, text_of}
use Rattle.vk_meaning.specs.World.{Array, World}
use Rattle.vk_meaning.specs.Data.{Datum, nothing, Action}
use Rattle.vk_meaning.specs.Points.{Point}
use Rattle.vk_meaning.specs.Expressions.{Context, Variables}
use Rattle.vk_meaning.specs.Programs.{Definition, arrays_of, array_number, first_point}
use Rattle.vk_meaning.specs.Statements.{State, Outcome, fell, broke, continued, returned, stopped, Effect, run}
use Rattle.vk_meaning.specs.Meaning.{Calls, call_by, context_of, ended, called, first_variables}
use Rattle.vk_meaning.specs.declared.reading.RunFail.{RunFail}
use Rattle.vk_meaning.specs.declared.reading.RunFail.TheVariants.{Write, Memory}
use Rattle.vk_reading.specs.declared.held.Held.{Held}
use Rattle.vk_reading.specs.declared.held.Halt.{Halt}
use Rattle.vk_reading.specs.declared.held.Halt.TheVariants.{Halted, Failed}
use Rattle.vk_reading.specs.Held.{datum_of}
use Rattle.vk_reading_steps.specs.Runs.{Run, Stands, HasFront, IsEnd, IsRise, Does}
use Rattle.vk_reading_steps.specs.Settings.{data_of, datum_in, number_in_table, variables_in}
use Rattle.vk_reading_statements.specs.declared.flow.Flow.{Flow}
use Rattle.vk_reading_statements.specs.declared.flow.Flow.TheVariants.{Fell, Broke, Continued, Returned}
use Rattle.vk_reading_statements.specs.Acts.{world_left, IsOutcome, EndsSo, HasRisen, Acts}
use Rattle.vk_reading_statements.specs.Flows.{outcome_in}
use Rattle.vk_reading_calls.specs.Ends.{given_by}

argument_at : (args : List Held) (k : ℕ) → datum_in (slice_get args k) ≡ get_or (data_of args) k nothing
argument_at [] k = refl
argument_at (h ∷ args) zero = refl
argument_at (h ∷ args) (suc k) = argument_at args k

arguments_are : (args : List Held) → variables_in args ≡ first_variables (data_of args)
arguments_are args i k = argument_at args k i

module _ (arrays : List Array) (start : List ℕ) (now : Run) (t : CType) where
  gave : (flow : Flow) (vs : Variables) (w : World) (h : Held) → datum_of h ≡ given_by t flow → Stands arrays start now w → IsEnd arrays start (ended t (outcome_in (Ok flow) vs w)) now (Ok h)
  gave Fell vs w h e s = (sym e, s)
  gave Broke vs w h e s = (sym e, s)
  gave Continued vs w h e s = (sym e, s)
  gave (Returned d) vs w h e s = (sym e, s)

  failed : (o : Outcome) (fail : RunFail) → HasFront start now (world_left o).events → IsEnd arrays start (ended t o) now (Err (Failed fail))
  failed (fell s) fail h = h
  failed (broke s) fail h = h
  failed (continued s) fail h = h
  failed (returned d w) fail h = h
  failed (stopped x w) fail h = h

  given_end : (o : Outcome) (flow : Flow) (new : List Held) (h : Held) → datum_of h ≡ given_by t flow → IsOutcome arrays start o now new (Ok flow) → IsEnd arrays start (ended t o) now (Ok h)
  given_end o flow new h e ends =
      subst (λ (q : Outcome). IsEnd arrays start (ended t q) now (Ok h)) (sym ends.is) (gave flow (variables_in new) (world_left o) h e ends.stands)

  halted_end : (o : Outcome) (halt : Halt) (new : List Held) → IsOutcome arrays start o now new (Err halt) → IsEnd arrays start (ended t o) now (Err halt)
  halted_end o (Halted stop) new ends =
      subst (λ (q : Outcome). IsEnd arrays start (ended t q) now (Err (Halted stop))) (sym ends.is) (refl, ends.stands)
  halted_end o (Failed fail) new ends = failed o fail ends

same_rise : (a b : ℕ) (halt : Halt) → HasRisen a b {T = Flow} (Err halt) → IsRise a b (Err halt)
same_rise a b (Halted stop) h = tt
same_rise a b (Failed Write) h = h
same_rise a b (Failed Memory) h = tt

module _ (units : List Subject) (turns : ℕ) (calls : Calls) (d : Definition) where
  -- what the body needs is that of the definition
  pub context_is : (numbers table : List ℕ) (text : List ℕ) → numbers ≡ table → ((id : NameId) → number_in_table table id ≡ array_number (arrays_of units) (text_of d.unit.texts id)) →
      text ≡ text_of d.unit.texts d.function.name →
      record {
        arrays = arrays_of units;
        array = number_in_table numbers;
        call = λ id. call_by calls (is_print d.unit.texts id) (text_of d.unit.texts id);
        turns = turns;
        text = text;
        result = d.function.result;
      } ≡ context_of units turns calls d
  context_is numbers table text same h e =
      let array : number_in_table numbers ≡ (λ id. array_number (arrays_of units) (text_of d.unit.texts id)) = λ i id. (ap (λ (ns : List ℕ). number_in_table ns id) same ∙ h id) i in
      λ i. record {
        arrays = arrays_of units;
        array = array i;
        call = λ id. call_by calls (is_print d.unit.texts id) (text_of d.unit.texts id);
        turns = turns;
        text = e i;
        result = d.function.result;
      }

  module _ (c : Context) (p : Point) (values args new : List Held) (before now : Run) (context : c ≡ context_of units turns calls d) (point : p ≡ first_point d) (same : values ≡ args) where
    arguments : variables_in values ≡ first_variables (data_of args)
    arguments = ap variables_in same ∙ arguments_are args

    whole : (w : World) → ended d.function.result (run c p d.body (record { variables = variables_in values; world = w })) ≡ called units turns calls d (data_of args) w
    whole w = λ i. ended d.function.result (run (context i) (point i) d.body (record { variables = arguments i; world = w }))

    pub does_given : (flow : Flow) (h : Held) → datum_of h ≡ given_by d.function.result flow → Acts (arrays_of units) before values (run c p d.body) now new (Ok flow) →
        Does (arrays_of units) before (called units turns calls d (data_of args)) now (Ok h)
    does_given flow h e acts = record {
      ends = λ start w s. subst (λ v. IsEnd (arrays_of units) start v now (Ok h)) (whole w)
          (given_end (arrays_of units) start now d.function.result (run c p d.body (record { variables = variables_in values; world = w })) flow new h e (acts.ends start w s));
      stays = acts.stays;
      rise = tt;
    }

    pub does_halt : (halt : Halt) → Acts (arrays_of units) before values (run c p d.body) now new (Err halt) → Does (arrays_of units) before (called units turns calls d (data_of args)) now (Err halt)
    does_halt halt acts = record {
      ends = λ start w s. subst (λ v. IsEnd (arrays_of units) start v now (Err halt)) (whole w)
          (halted_end (arrays_of units) start now d.function.result (run c p d.body (record { variables = variables_in values; world = w })) halt new (acts.ends start w s));
      stays = acts.stays;
      rise = same_rise before.out.faults now.out.faults halt acts.rise;
    }
