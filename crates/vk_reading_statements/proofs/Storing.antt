-- Assignments to elements, part by part.
use Rattle.std.proofs.Common.{◌≡◌, ℕ, List, Result, Ok, Err, refl, sym, ap, subst, ◌∙◌}
use Rattle.vk_types.specs.declared.types.Stop.{Stop}
use Rattle.vk_types.specs.declared.types.Ty.{Ty}
use Rattle.vk_types.specs.Numbers.{wrap_number}
use Rattle.vk_ast.specs.declared.expressions.BinOp.{BinOp}
use Rattle.vk_numbers.specs.Operators.{binary_number}
use Rattle.vk_io.specs.Sink.{SinkState}
use Rattle.vk_meaning.specs.World.{Array, Event, World}
use Rattle.vk_meaning.specs.Data.{Datum, Value, number_in, Action, given, then_number, loaded, stored}
use Rattle.vk_meaning.specs.Expressions.{Context, answered}
use Rattle.vk_meaning.specs.Statements.{assigned, combined, assigned_by}
use Rattle.vk_reading.specs.declared.held.Held.{Held}
use Rattle.vk_reading.specs.declared.held.Held.TheVariants.{Nothing}
use Rattle.vk_reading.specs.declared.held.Halt.{Halt}
use Rattle.vk_reading.specs.declared.held.Halt.TheVariants.{Halted}
use Rattle.vk_reading.specs.declared.cells.Row.{Row}
use Rattle.vk_reading.specs.Cells.{memory_in, AreRowsOf, done_in}
use Rattle.vk_reading.specs.Held.{datum_of}
use Rattle.vk_reading_steps.specs.Runs.{Run, Stands, IsEnd, Does, Adds, run_of}
use Rattle.vk_reading_steps.proofs.Steps.{does_then, does_fail, stays_itself}
use Rattle.vk_reading_steps.proofs.Adds.{adds_number, adds_answered, adds_loaded, adds_stored}

-- ---- what the rows have behind a store

module _ {arrays : List Array} (rows last : List Row) (out : SinkState) (action : Action) (r : Result (Unit {0}) Stop)
    (is : (events : List Event) → AreRowsOf rows arrays → done_in r (record { memory = memory_in last; events = events }) ≡ action (record { memory = memory_in rows; events = events }))
    (keeps : AreRowsOf rows arrays → AreRowsOf last arrays) where
  left : (start : List ℕ) (w : World) → Stands arrays start (run_of rows out) w → action w ≡ done_in r (record { memory = memory_in last; events = w.events })
  left start w h = (λ i. action (record { memory = h.memory i; events = w.events })) ∙ sym (is w.events h.rows)

  stands_now : (start : List ℕ) (w : World) → Stands arrays start (run_of rows out) w → Stands arrays start (run_of last out) (record { memory = memory_in last; events = w.events })
  stands_now start w h = record { rows = keeps h.rows; memory = refl; text = h.text }

  pub store_done : (u : Unit {0}) → r ≡ Ok u → Does arrays (run_of rows out) action (run_of last out) (Ok Nothing)
  store_done u ok = record {
    ends = λ start w h. subst (λ (v : Value). IsEnd arrays start v (run_of last out) (Ok Nothing))
        (sym (left start w h ∙ ap (λ (x : Result (Unit {0}) Stop). done_in x (record { memory = memory_in last; events = w.events })) ok)) (refl, stands_now start w h);
    stays = stays_itself out;
    rise = tt;
  }

  pub store_stopped : (stop : Stop) → r ≡ Err stop → Does arrays (run_of rows out) action (run_of last out) (Err (Halted stop))
  store_stopped stop err = record {
    ends = λ start w h. subst (λ (v : Value). IsEnd arrays start v (run_of last out) (Err (Halted stop)))
        (sym (left start w h ∙ ap (λ (x : Result (Unit {0}) Stop). done_in x (record { memory = memory_in last; events = w.events })) err)) (refl, stands_now start w h);
    stays = stays_itself out;
    rise = tt;
  }

-- ---- one part after another

module _ (c : Context) (s : Ty) (place e : Action) (adds_e : Adds e) where
  adds_store : (p z : Datum) → Adds (stored c.arrays p (wrap_number s (number_in z)))
  adds_store p z = adds_stored c.arrays p (wrap_number s (number_in z))

  adds_plain : (p : Datum) → Adds (then_number e (λ z. stored c.arrays p (wrap_number s z)))
  adds_plain p = adds_number adds_e (λ z. adds_stored c.arrays p (wrap_number s z))

  pub plain_first : {b n : Run} {x : Halt} → Does c.arrays b place n (Err x) → Does c.arrays b (assigned c s place e) n (Err x)
  plain_first d = does_fail (λ p. then_number e (λ z. stored c.arrays p (wrap_number s z))) adds_plain d

  pub plain_second : {b m n : Run} {p : Held} {x : Halt} → Does c.arrays b place m (Ok p) → Does c.arrays m e n (Err x) → Does c.arrays b (assigned c s place e) n (Err x)
  plain_second {p = p} d k = does_then (λ q. then_number e (λ z. stored c.arrays q (wrap_number s z))) d
      (does_fail (λ z. stored c.arrays (datum_of p) (wrap_number s (number_in z))) (adds_store (datum_of p)) k)

  pub plain_done : {b m k n : Run} {p h : Held} {r : Result Held Halt} → Does c.arrays b place m (Ok p) → Does c.arrays m e k (Ok h)
      → Does c.arrays k (stored c.arrays (datum_of p) (wrap_number s (number_in (datum_of h)))) n r → Does c.arrays b (assigned c s place e) n r
  plain_done {p = p} d x y = does_then (λ q. then_number e (λ z. stored c.arrays q (wrap_number s z))) d (does_then (λ z. stored c.arrays (datum_of p) (wrap_number s (number_in z))) x y)

  module _ (op : BinOp) (t : Ty) where
    adds_operator : (x : Datum) → Adds (then_number e (λ y. answered (binary_number op s t (number_in x) y)))
    adds_operator x = adds_number adds_e (λ y. adds_answered (binary_number op s t (number_in x) y))

    adds_combined : (p : Datum) → Adds (combined op s t (loaded c.arrays s p) e)
    adds_combined p = adds_number (adds_loaded c.arrays s p) (λ x. adds_number adds_e (λ y. adds_answered (binary_number op s t x y)))

    abbrev behind : Datum → Action
    behind p = then_number (combined op s t (loaded c.arrays s p) e) (λ z. stored c.arrays p (wrap_number s z))

    adds_behind : (p : Datum) → Adds (behind p)
    adds_behind p = adds_number (adds_combined p) (λ z. adds_stored c.arrays p (wrap_number s z))

    pub by_first : {b n : Run} {x : Halt} → Does c.arrays b place n (Err x) → Does c.arrays b (assigned_by c op s t place e) n (Err x)
    by_first d = does_fail behind adds_behind d

    pub by_old : {b m n : Run} {p : Held} {x : Halt} → Does c.arrays b place m (Ok p) → Does c.arrays m (loaded c.arrays s (datum_of p)) n (Err x) → Does c.arrays b (assigned_by c op s t place e) n (Err x)
    by_old {p = p} d k = does_then behind d (does_fail (λ z. stored c.arrays (datum_of p) (wrap_number s (number_in z))) (adds_store (datum_of p))
        (does_fail (λ x. then_number e (λ y. answered (binary_number op s t (number_in x) y))) adds_operator k))

    pub by_number : {b m k n : Run} {p old : Held} {x : Halt} → Does c.arrays b place m (Ok p) → Does c.arrays m (loaded c.arrays s (datum_of p)) k (Ok old)
        → Does c.arrays k (combined op s t (given (datum_of old)) e) n (Err x) → Does c.arrays b (assigned_by c op s t place e) n (Err x)
    by_number {p = p} d o k = does_then behind d (does_fail (λ z. stored c.arrays (datum_of p) (wrap_number s (number_in z))) (adds_store (datum_of p))
        (does_then (λ x. then_number e (λ y. answered (binary_number op s t (number_in x) y))) o k))

    pub by_done : {b m k j n : Run} {p old h : Held} {r : Result Held Halt} → Does c.arrays b place m (Ok p) → Does c.arrays m (loaded c.arrays s (datum_of p)) k (Ok old)
        → Does c.arrays k (combined op s t (given (datum_of old)) e) j (Ok h) → Does c.arrays j (stored c.arrays (datum_of p) (wrap_number s (number_in (datum_of h)))) n r
        → Does c.arrays b (assigned_by c op s t place e) n r
    by_done {p = p} d o k x = does_then behind d (does_then (λ z. stored c.arrays (datum_of p) (wrap_number s (number_in z)))
        (does_then (λ x. then_number e (λ y. answered (binary_number op s t (number_in x) y))) o k) x)
