-- One step after another: what the code does for each of them it does for both.
use Rattle.std.proofs.Common.{◌≡◌, ℕ, zero, Bool, true, false, cond, List, Result, Ok, Err, refl, sym, ap, subst, ◌∙◌}
use Rattle.std.proofs.lemmas.Bool.{false≢true}
use Rattle.vk_types.specs.declared.types.Stop.{Stop}
use Rattle.vk_types.specs.declared.types.Stop.TheVariants.{Turns}
use Rattle.vk_numbers.specs.Operators.{is_on}
use Rattle.vk_meaning.specs.World.{Array, World}
use Rattle.vk_meaning.specs.Data.{Datum, number_in, as_type, Value, got, halts}
use Rattle.vk_kinds.specs.declared.heads.CType.{CType}
use Rattle.vk_meaning.specs.Points.{Variable}
use Rattle.vk_meaning.specs.Expressions.{with_datum}
use Rattle.vk_meaning.specs.declared.reading.RunFail.TheVariants.{Memory}
use Rattle.vk_meaning.specs.Statements.{State, with_variable, assign_variable, evaluate, Outcome, fell, broke, continued, returned, stopped, Effect, Evaluation, on_value, with_evaluated, on_fell, then_do, branch, on_turn, turns, uncontinued, with_third}
use Rattle.vk_reading.specs.declared.held.Held.{Held}
use Rattle.vk_reading.specs.declared.held.Halt.{Halt}
use Rattle.vk_reading.specs.declared.held.Halt.TheVariants.{Halted, Failed}
use Rattle.vk_reading.specs.Held.{datum_of}
use Rattle.vk_reading.specs.Reading.{AreFirst}
use Rattle.vk_reading_steps.specs.Runs.{Run, Stands, IsEnd, Does}
use Rattle.vk_reading_steps.specs.Settings.{variables_in}
use Rattle.vk_reading_steps.proofs.Steps.{stays_itself}
use Rattle.vk_reading_statements.specs.declared.flow.Flow.{Flow}
use Rattle.vk_reading_statements.specs.declared.flow.Flow.TheVariants.{Fell, Broke, Continued, Returned}
use Rattle.vk_reading_statements.specs.Flows.{outcome_in, is_jump, leaves_loop, left_by, behind_it, behind_turn, behind_body}
use Rattle.vk_reading_statements.specs.Acts.{world_left, EndsSo, IsOutcome, Acts, AddsTo, Leads, Decides}
use Rattle.vk_reading_statements.proofs.Fronts.{front_further, stands_front, stays_trans, risen_later, risen}
use Rattle.vk_reading_statements.proofs.AddsAll.{first_itself, fell_adds, turn_adds, third_adds}

-- a state with these values
abbrev pub state_in : List Held → World → State
state_in values w = record { variables = variables_in values; world = w }

adds_either : {p q : Effect} (t : Bool) → AddsTo p → AddsTo q → AddsTo (cond t p q)
adds_either true h k = h
adds_either false h k = k

-- ---- where a statement did not jump

pub goes_on : (next : Effect) (flow : Flow) → is_jump flow ≡ false → behind_it flow next ≡ next
goes_on next Fell e = refl
goes_on next Broke e = absurd (false≢true (sym e))
goes_on next Continued e = absurd (false≢true (sym e))
goes_on next (Returned h) e = absurd (false≢true (sym e))

pub turn_goes_on : (next : Effect) (flow : Flow) → leaves_loop flow ≡ false → behind_turn flow next ≡ next
turn_goes_on next Fell e = refl
turn_goes_on next Broke e = absurd (false≢true (sym e))
turn_goes_on next Continued e = refl
turn_goes_on next (Returned h) e = absurd (false≢true (sym e))

pub third_goes_on : (third : Effect) (flow : Flow) → leaves_loop flow ≡ false → behind_body flow third ≡ third
third_goes_on third Fell e = refl
third_goes_on third Broke e = absurd (false≢true (sym e))
third_goes_on third Continued e = refl
third_goes_on third (Returned h) e = absurd (false≢true (sym e))

adds_stored_in : (k : ℕ) (d : Datum) → AddsTo (λ s. fell (with_variable s k d))
adds_stored_in k d = record { adds = λ s. first_itself s.world.events }

pub adds_returned : (t : CType) (d : Datum) → AddsTo (λ s. returned (as_type t d) s.world)
adds_returned t d = record { adds = λ s. first_itself s.world.events }

module _ {arrays : List Array} where
  -- ---- what is left

  pub leads_itself : (r : Run) (values : List Held) (effect : Effect) → Leads arrays r values effect r values effect
  leads_itself r values effect = record { leads = λ end last result k. k }

  pub leads_then : {a b c : Run} {us vs ws : List Held} {whole next rest : Effect} → Leads arrays a us whole b vs next → Leads arrays b vs next c ws rest → Leads arrays a us whole c ws rest
  leads_then h k = record { leads = λ end last result d. h.leads end last result (k.leads end last result d) }

  -- ---- nothing more is done

  pub acts_ended : (s : Run) (values : List Held) (effect : Effect) (flow : Flow) → ((w : World) → effect (state_in values w) ≡ outcome_in (Ok flow) (variables_in values) w) → Acts arrays s values effect s values (Ok flow)
  acts_ended s values effect flow k = record {
    ends = λ start w h. subst (λ (o : Outcome). EndsSo arrays start o s values (Ok flow)) (sym (k w)) (here start w flow h);
    stays = stays_itself s.out;
    rise = tt;
  }
    where
      here : (start : List ℕ) (w : World) (flow : Flow) → Stands arrays start s w → EndsSo arrays start (outcome_in (Ok flow) (variables_in values) w) s values (Ok flow)
      here start w Fell h = record { is = refl; stands = h }
      here start w Broke h = record { is = refl; stands = h }
      here start w Continued h = record { is = refl; stands = h }
      here start w (Returned x) h = record { is = refl; stands = h }

  -- a variable has another value
  pub stored_in : (s : Run) (values last : List Held) (k : ℕ) (d : Datum) → variables_in last ≡ with_datum (variables_in values) k d → Acts arrays s values (λ t. fell (with_variable t k d)) s last (Ok Fell)
  stored_in s values last k d is = record {
    ends = λ start w h. record { is = λ i. fell (record { variables = sym is i; world = w }); stands = h };
    stays = stays_itself s.out;
    rise = tt;
  }

  -- want of memory in the midst
  pub acts_want : (s : Run) (values last : List Held) (effect : Effect) → AddsTo effect → Acts arrays s values effect s last (Err (Failed Memory))
  acts_want s values last effect a = record {
    ends = λ start w h. front_further (stands_front h) (a.adds (state_in values w));
    stays = stays_itself s.out;
    rise = tt;
  }

  -- ---- evaluations

  module _ {b n : Run} {values : List Held} (e : Evaluation) where
    pub evaluated_leads : {h : Held} (next : Datum → Effect) → Does arrays b (e (variables_in values)) n (Ok h) → Leads arrays b values (with_evaluated e next) n values (next (datum_of h))
    evaluated_leads {h = h} next d = record {
      leads = λ end last result k. record {
        ends = λ start w s. goes end last result start (e (variables_in values) w) (d.ends start w s) (k.ends start);
        stays = stays_trans d.stays k.stays;
        rise = risen_later b.out.faults n.out.faults end.out.faults result d.stays.faults k.rise;
      };
    }
      where
        goes : (end : Run) (last : List Held) (result : Result Flow Halt) (start : List ℕ) (v : Value) → IsEnd arrays start v n (Ok h)
            → ((w : World) → Stands arrays start n w → IsOutcome arrays start (next (datum_of h) (state_in values w)) end last result)
            → IsOutcome arrays start (on_value v (λ d w. next d (state_in values w))) end last result
        goes end last result start (got d w) x k = subst (λ (y : Datum). IsOutcome arrays start (next y (state_in values w)) end last result) (sym x.0) (k w x.1)
        goes end last result start (halts y w) x k = absurd x

    pub evaluated_fails : {x : Halt} (last : List Held) (next : Datum → Effect) → ((d : Datum) → AddsTo (next d)) → Does arrays b (e (variables_in values)) n (Err x) → Acts arrays b values (with_evaluated e next) n last (Err x)
    evaluated_fails {x = x} last next a d = record {
      ends = λ start w s. fails start x (e (variables_in values) w) (d.ends start w s);
      stays = d.stays;
      rise = risen Flow b.out.faults n.out.faults x d.rise;
    }
      where
        fails : (start : List ℕ) (x : Halt) (v : Value) → IsEnd arrays start v n (Err x) → IsOutcome arrays start (on_value v (λ d w. next d (state_in values w))) n last (Err x)
        fails start (Halted y) (got d w) k = absurd k
        fails start (Halted y) (halts z w) k = record { is = ap (λ (q : Stop). stopped q w) k.0; stands = k.1 }
        fails start (Failed f) (got d w) k = front_further k ((a d).adds (state_in values w))
        fails start (Failed f) (halts z w) k = k

    -- the value is dropped
    pub value_dropped : {h : Held} → Does arrays b (e (variables_in values)) n (Ok h) → Acts arrays b values (evaluate e) n values (Ok Fell)
    value_dropped d = (evaluated_leads (λ d. fell) d).leads n values (Ok Fell) (acts_ended n values fell Fell (λ w. refl))

    -- the value is given back
    pub value_returned : {h x : Held} (t : CType) → Does arrays b (e (variables_in values)) n (Ok h) → datum_of x ≡ as_type t (datum_of h)
        → Acts arrays b values (with_evaluated e (λ d s. returned (as_type t d) s.world)) n values (Ok (Returned x))
    value_returned {h = h} {x = x} t d is = (evaluated_leads (λ d s. returned (as_type t d) s.world) d).leads n values (Ok (Returned x))
        (acts_ended n values (λ s. returned (as_type t (datum_of h)) s.world) (Returned x) (λ w. ap (λ (y : Datum). returned y w) (sym is)))

    -- the value is stored in a variable
    pub value_assigned : {h : Held} {last : List Held} (v : Variable) → Does arrays b (e (variables_in values)) n (Ok h) → variables_in last ≡ with_datum (variables_in values) v.number (as_type v.ctype (datum_of h))
        → Acts arrays b values (assign_variable v e) n last (Ok Fell)
    value_assigned {h = h} {last = last} v d is = (evaluated_leads (λ d s. fell (with_variable s v.number (as_type v.ctype d))) d).leads n last (Ok Fell) (stored_in n values last v.number (as_type v.ctype (datum_of h)) is)

    pub assign_want : {h : Held} (v : Variable) (last : List Held) → Does arrays b (e (variables_in values)) n (Ok h) → Acts arrays b values (assign_variable v e) n last (Err (Failed Memory))
    assign_want {h = h} v last d = (evaluated_leads (λ d s. fell (with_variable s v.number (as_type v.ctype d))) d).leads n last (Err (Failed Memory))
        (acts_want n values last (λ s. fell (with_variable s v.number (as_type v.ctype (datum_of h)))) (adds_stored_in v.number (as_type v.ctype (datum_of h))))

    pub assign_fails : {x : Halt} (v : Variable) (last : List Held) → Does arrays b (e (variables_in values)) n (Err x) → Acts arrays b values (assign_variable v e) n last (Err x)
    assign_fails v last d = evaluated_fails last (λ d s. fell (with_variable s v.number (as_type v.ctype d))) (λ d. adds_stored_in v.number (as_type v.ctype d)) d

    -- a condition
    pub decides_on : {h : Held} (on : Bool) → on ≡ is_on (number_in (datum_of h)) → Does arrays b (e (variables_in values)) n (Ok h) → Decides arrays b values e n (Ok on)
    decides_on {h = h} on is d = record {
      chooses = λ first second p q.
          subst (λ (t : Bool). Leads arrays b values (branch e first second) n values (cond t first second)) (sym is)
          (evaluated_leads {h = h} (λ d. cond (is_on (number_in d)) first second) d);
    }

    pub decides_fail : {x : Halt} → Does arrays b (e (variables_in values)) n (Err x) → Decides arrays b values e n (Err x)
    decides_fail {x = x} d = record {
      chooses = λ first second p q.
          evaluated_fails values (λ d. cond (is_on (number_in d)) first second) (λ d. adds_either (is_on (number_in d)) p q) d;
    }

  -- ---- statements

  -- what a statement that ended so leaves to be done, where its own end is told by a function of outcomes
  flows : {b n : Run} {old new : List Held} {first : Effect} (flow : Flow) (whole rest : Effect) → Acts arrays b old first n new (Ok flow)
      → ((o : Outcome) (w : World) (s : State) → o ≡ first s → o ≡ outcome_in (Ok flow) (variables_in new) w → whole s ≡ rest (state_in new w))
      → Leads arrays b old whole n new rest
  flows {b = b} {n = n} {old = old} {new = new} {first = first} flow whole rest d k = record {
    leads = λ end last result r. record {
      ends = λ start w s. let e = d.ends start w s in
          subst (λ (o : Outcome). IsOutcome arrays start o end last result) (sym (k (first (state_in old w)) (world_left (first (state_in old w))) (state_in old w) refl e.is)) (r.ends start (world_left (first (state_in old w))) e.stands);
      stays = stays_trans d.stays r.stays;
      rise = risen_later b.out.faults n.out.faults end.out.faults result d.stays.faults r.rise;
    };
  }

  pub then_leads : {b n : Run} {old new : List Held} {first : Effect} (second : Effect) (flow : Flow) → Acts arrays b old first n new (Ok flow) → Leads arrays b old (then_do first second) n new (behind_it flow second)
  then_leads {new = new} {first = first} second flow d = flows flow (then_do first second) (behind_it flow second) d (λ o w s is e. ap (λ x. on_fell x second) (sym is ∙ e) ∙ told flow w)
    where
      told : (flow : Flow) (w : World) → on_fell (outcome_in (Ok flow) (variables_in new) w) second ≡ behind_it flow second (state_in new w)
      told Fell w = refl
      told Broke w = refl
      told Continued w = refl
      told (Returned h) w = refl

  pub turn_leads : {b n : Run} {old new : List Held} {body : Effect} (next : Effect) (flow : Flow) → Acts arrays b old body n new (Ok flow) → Leads arrays b old (λ s. on_turn (body s) next) n new (behind_turn flow next)
  turn_leads {new = new} {body = body} next flow d = flows flow (λ s. on_turn (body s) next) (behind_turn flow next) d (λ o w s is e. ap (λ x. on_turn x next) (sym is ∙ e) ∙ told flow w)
    where
      told : (flow : Flow) (w : World) → on_turn (outcome_in (Ok flow) (variables_in new) w) next ≡ behind_turn flow next (state_in new w)
      told Fell w = refl
      told Broke w = refl
      told Continued w = refl
      told (Returned h) w = refl

  pub body_leads : {b n : Run} {old new : List Held} {body : Effect} (third : Effect) (flow : Flow) → Acts arrays b old body n new (Ok flow) → Leads arrays b old (with_third body third) n new (behind_body flow third)
  body_leads {new = new} {body = body} third flow d = flows flow (with_third body third) (behind_body flow third) d (λ o w s is e. ap (λ x. on_fell (uncontinued x) third) (sym is ∙ e) ∙ told flow w)
    where
      told : (flow : Flow) (w : World) → on_fell (uncontinued (outcome_in (Ok flow) (variables_in new) w)) third ≡ behind_body flow third (state_in new w)
      told Fell w = refl
      told Broke w = refl
      told Continued w = refl
      told (Returned h) w = refl

  -- ---- a statement failed

  fails : {b n : Run} {old last : List Held} {first : Effect} {x : Halt} (whole : Effect) → Acts arrays b old first n last (Err x)
      → ((s : State) → AreFirst (world_left (first s)).events (world_left (whole s)).events)
      → ((s : State) (stop : Stop) (w : World) → first s ≡ stopped stop w → whole s ≡ stopped stop w)
      → Acts arrays b old whole n last (Err x)
  fails {b = b} {n = n} {old = old} {last = last} {first = first} {x = x} whole d a k = record {
    ends = λ start w s. at start w x (d.ends start w s);
    stays = d.stays;
    rise = d.rise;
  }
    where
      at : (start : List ℕ) (w : World) (x : Halt) → IsOutcome arrays start (first (state_in old w)) n last (Err x) → IsOutcome arrays start (whole (state_in old w)) n last (Err x)
      at start w (Halted stop) e =
          let same = k (state_in old w) stop (world_left (first (state_in old w))) e.is in
          subst (λ (o : Outcome). EndsSo arrays start o n last (Err stop)) (sym same) (record { is = refl; stands = e.stands })
      at start w (Failed f) e = front_further e (a (state_in old w))

  pub then_fails : {b n : Run} {old last : List Held} {first : Effect} {x : Halt} (second : Effect) → AddsTo second → Acts arrays b old first n last (Err x) → Acts arrays b old (then_do first second) n last (Err x)
  then_fails {first = first} second a d = fails (then_do first second) d (λ s. fell_adds (first s) a) (λ s stop w e. ap (λ o. on_fell o second) e)

  pub turn_fails : {b n : Run} {old last : List Held} {body : Effect} {x : Halt} (next : Effect) → AddsTo next → Acts arrays b old body n last (Err x) → Acts arrays b old (λ s. on_turn (body s) next) n last (Err x)
  turn_fails {body = body} next a d = fails (λ s. on_turn (body s) next) d (λ s. turn_adds (body s) a) (λ s stop w e. ap (λ o. on_turn o next) e)

  pub body_fails : {b n : Run} {old last : List Held} {body : Effect} {x : Halt} (third : Effect) → AddsTo third → Acts arrays b old body n last (Err x) → Acts arrays b old (with_third body third) n last (Err x)
  body_fails {body = body} third a d = fails (with_third body third) d (λ s. third_adds (body s) a) (λ s stop w e. ap (λ o. on_fell (uncontinued o) third) e)

  -- ---- jumps

  pub jumps : (s : Run) (values : List Held) (next : Effect) (flow : Flow) → is_jump flow ≡ true → Acts arrays s values (behind_it flow next) s values (Ok flow)
  jumps s values next Fell e = absurd (false≢true e)
  jumps s values next Broke e = acts_ended s values broke Broke (λ w. refl)
  jumps s values next Continued e = acts_ended s values continued Continued (λ w. refl)
  jumps s values next (Returned h) e = acts_ended s values (behind_it (Returned h) next) (Returned h) (λ w. refl)

  pub loop_left : (s : Run) (values : List Held) (next : Effect) (flow : Flow) → leaves_loop flow ≡ true → Acts arrays s values (behind_turn flow next) s values (Ok (left_by flow))
  loop_left s values next Fell e = absurd (false≢true e)
  loop_left s values next Broke e = acts_ended s values fell Fell (λ w. refl)
  loop_left s values next Continued e = absurd (false≢true e)
  loop_left s values next (Returned h) e = acts_ended s values (behind_turn (Returned h) next) (Returned h) (λ w. refl)

  pub body_left : (s : Run) (values : List Held) (third : Effect) (flow : Flow) → leaves_loop flow ≡ true → Acts arrays s values (behind_body flow third) s values (Ok flow)
  body_left s values third Fell e = absurd (false≢true e)
  body_left s values third Broke e = acts_ended s values broke Broke (λ w. refl)
  body_left s values third Continued e = absurd (false≢true e)
  body_left s values third (Returned h) e = acts_ended s values (behind_body (Returned h) third) (Returned h) (λ w. refl)

  -- where the turns are at an end
  pub no_turns : (s : Run) (values last : List Held) (test : Evaluation) (body : Effect) → Acts arrays s values (turns zero test body) s last (Err (Halted Turns))
  no_turns s values last test body = record { ends = λ start w h. record { is = refl; stands = h }; stays = stays_itself s.out; rise = tt }
