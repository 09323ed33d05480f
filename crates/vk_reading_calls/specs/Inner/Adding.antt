-- Calls only add to the events.
use Rattle.std.specs.Prelude.{ℕ, zero, suc, Bool, true, false, List, [], ◌∷◌, Option, Some, None}
use Rattle.std.proofs.Common.{refl}
use Rattle.vk_kinds.specs.declared.heads.CType.{CType}
use Rattle.vk_ast.specs.declared.names.NameId.{NameId}
use Rattle.vk_rules_book.specs.Rules.{Subject}
use Rattle.vk_rules_book.specs.Scopes.{is_print, text_of}
use Rattle.vk_meaning.specs.World.{printed}
use Rattle.vk_meaning.specs.Data.{Datum, nothing, number_in}
use Rattle.vk_meaning.specs.Programs.{Definition, definition_of, first_point}
use Rattle.vk_meaning.specs.Statements.{State, Outcome, fell, broke, continued, returned, stopped, run}
use Rattle.vk_meaning.specs.Meaning.{Calls, print_first, call_by, call_within, context_of, ended, called, called_where_defined, first_variables, world_of}
use Rattle.vk_reading.specs.Reading.{AreFirst}
use Rattle.vk_reading_steps.specs.Runs.{Adds}
use Rattle.vk_reading_steps.proofs.Adds.{first_trans, adds_given}
use Rattle.vk_reading_statements.specs.Acts.{world_left}
use Rattle.vk_reading_statements.proofs.AddsAll.{first_itself, adds_run}

adds_print : (ds : List Datum) → Adds (print_first ds)
adds_print [] = record { adds = λ w. first_itself w.events }
adds_print (d ∷ ds) = record { adds = λ w. record { rest = printed (number_in d) ∷ []; parts = refl } }

by_name : (calls : Calls) → ((text : List ℕ) (ds : List Datum) → Adds (calls text ds)) → (printing : Bool) (text : List ℕ) (ds : List Datum) → Adds (call_by calls printing text ds)
by_name calls h true text ds = adds_print ds
by_name calls h false text ds = h text ds

same_world : (t : CType) (o : Outcome) → AreFirst (world_left o).events (world_of (ended t o)).events
same_world t (fell s) = first_itself s.world.events
same_world t (broke s) = first_itself s.world.events
same_world t (continued s) = first_itself s.world.events
same_world t (returned d w) = first_itself w.events
same_world t (stopped x w) = first_itself w.events

module _ (units : List Subject) (turns : ℕ) where
  adds_in : (calls : Calls) → ((text : List ℕ) (ds : List Datum) → Adds (calls text ds)) → (d : Definition) (id : NameId) (ds : List Datum) → Adds ((context_of units turns calls d).call id ds)
  adds_in calls h d id ds = by_name calls h (is_print d.unit.texts id) (text_of d.unit.texts id) ds

  pub adds_defined : (calls : Calls) → ((text : List ℕ) (ds : List Datum) → Adds (calls text ds)) → (d : Definition) (ds : List Datum) → Adds (called units turns calls d ds)
  adds_defined calls h d ds = record {
    adds = λ w.
        let s : State = record { variables = first_variables ds; world = w } in
        first_trans ((adds_run (context_of units turns calls d) (adds_in calls h d) (first_point d) d.body).adds s) (same_world d.function.result (run (context_of units turns calls d) (first_point d) d.body s));
  }

  adds_called : (calls : Calls) → ((text : List ℕ) (ds : List Datum) → Adds (calls text ds)) → (d : Option Definition) (ds : List Datum) → Adds (called_where_defined units turns calls d ds)
  adds_called calls h None ds = adds_given nothing
  adds_called calls h (Some d) ds = adds_defined calls h d ds

  pub adds_within : (depth : ℕ) (text : List ℕ) (ds : List Datum) → Adds (call_within depth units turns text ds)
  adds_within zero text ds = adds_given nothing
  adds_within (suc depth) text ds = adds_called (call_within depth units turns) (adds_within depth) (definition_of units text) ds

pub adds_call_by : (depth : ℕ) (units : List Subject) (turns : ℕ) (printing : Bool) (text : List ℕ) (ds : List Datum) → Adds (call_by (call_within depth units turns) printing text ds)
adds_call_by depth units turns printing text ds = by_name (call_within depth units turns) (adds_within units turns depth) printing text ds
