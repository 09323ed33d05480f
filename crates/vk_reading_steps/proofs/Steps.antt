-- One evaluation after another: what the code does for each of them it does for both.
use Rattle.std.proofs.Common.{◌≡◌, ℕ, ◌≤◌, List, [], ◌++◌, Result, Ok, Err, refl, sym, ap, subst, ◌∙◌, append_assoc, append-nil, flat_map, arith}
use Rattle.std.proofs.lemmas.List.Concat.{flat_map-append}
use Rattle.std.proofs.lemmas.List.Elements.{filter_map-append}
use Rattle.vk_types.specs.declared.types.Stop.{Stop}
use Rattle.vk_io.specs.Counts.{Rose}
use Rattle.vk_io.specs.Sink.{SinkState, Stays}
use Rattle.vk_meaning.specs.World.{Array, Event, World}
use Rattle.vk_meaning.specs.Data.{Datum, Value, got, halts, with_value, Action, and_then}
use Rattle.vk_meaning.specs.Meaning.{line_of, printed_number, world_of}
use Rattle.vk_meaning.specs.declared.reading.RunFail.{RunFail}
use Rattle.vk_meaning.specs.declared.reading.RunFail.TheVariants.{Write, Memory}
use Rattle.vk_reading.specs.declared.cells.Row.{Row}
use Rattle.vk_reading.specs.Cells.{memory_in, AreRowsOf}
use Rattle.vk_reading.specs.declared.held.Held.{Held}
use Rattle.vk_reading.specs.declared.held.Halt.{Halt}
use Rattle.vk_reading.specs.declared.held.Halt.TheVariants.{Halted, Failed}
use Rattle.vk_reading.specs.Held.{datum_of, value_in}
use Rattle.vk_reading.specs.Reading.{AreFirst}
use Rattle.vk_reading_steps.specs.Runs.{Run, text_of, Stands, HasFront, IsEnd, IsRise, Does, Adds, GoesOn, run_of, settled}

text_append : (es fs : List Event) → text_of (es ++ fs) ≡ text_of es ++ text_of fs
text_append es fs = ap (λ zs. flat_map line_of zs) (filter_map-append printed_number es fs) ∙ flat_map-append line_of _ _

-- a front of the text of the first events is one of all
front_further : {start : List ℕ} {r : Run} {es fs : List Event} → HasFront start r es → AreFirst es fs → HasFront start r fs
front_further {es = es} h k = record {
  front = λ t. record {
    front = (h.front t).front;
    rest = (h.front t).rest ++ text_of k.rest;
    parts = ap text_of k.parts ∙ text_append es k.rest ∙ ap (λ xs. xs ++ text_of k.rest) (h.front t).parts ∙ append_assoc (h.front t).front _ _;
    grown = (h.front t).grown;
  };
}

of_front : (arrays : List Array) (start : List ℕ) (r : Run) (fail : RunFail) (v : Value) → HasFront start r (world_of v).events → IsEnd arrays start v r (Err (Failed fail))
of_front arrays start r fail (got d w) h = h
of_front arrays start r fail (halts x w) h = h

stays_trans : {a b c : SinkState} → Stays a b → Stays b c → Stays a c
stays_trans h k = record { tells = k.tells ∙ h.tells; is_lean = k.is_lean ∙ h.is_lean; faults = omega arith }

pub stays_itself : (a : SinkState) → Stays a a
stays_itself a = record { tells = refl; is_lean = refl; faults = omega arith }

rose_later : (a b c : ℕ) → a ≤ b → Rose b c → Rose a c
rose_later a b c h k = omega arith

rise_later : (a b c : ℕ) (r : Result Held Halt) → a ≤ b → IsRise b c r → IsRise a c r
rise_later a b c (Err (Failed Write)) h k = rose_later a b c h k
rise_later a b c (Err (Failed Memory)) h k = tt
rise_later a b c (Err (Halted x)) h k = tt
rise_later a b c (Ok x) h k = tt

settled_rise : (a b : ℕ) (r : Result Held Stop) → IsRise a b (settled r)
settled_rise a b (Ok h) = tt
settled_rise a b (Err x) = tt

stands_front : {arrays : List Array} {start : List ℕ} {s : Run} {w : World} → Stands arrays start s w → HasFront start s w.events
stands_front {w = w} h = record { front = λ t. record { front = text_of w.events; rest = []; parts = sym (append-nil (text_of w.events)); grown = h.text t } }

fails_end : (arrays : List Array) (start : List ℕ) (n : Run) (next : Datum → Action) (x : Halt) (v : Value) → ((d : Datum) → Adds (next d)) → IsEnd arrays start v n (Err x) →
    IsEnd arrays start (with_value v next) n (Err x)
fails_end arrays start n next (Halted x) (got d w) k e = absurd e
fails_end arrays start n next (Halted x) (halts y w) k e = e
fails_end arrays start n next (Failed f) (got d w) k e = of_front arrays start n f (next d w) (front_further e ((k d).adds w))
fails_end arrays start n next (Failed f) (halts y w) k e = e

in_rows : (rows : List Row) (w : World) → w.memory ≡ memory_in rows → w ≡ record { memory = memory_in rows; events = w.events }
in_rows rows w e = λ i. record { memory = e i; events = w.events }

module _ {arrays : List Array} where
  then_ends : (start : List ℕ) (m n : Run) (next : Datum → Action) (h : Held) (r : Result Held Halt) (v : Value) → IsEnd arrays start v m (Ok h) →
      ((w : World) → Stands arrays start m w → IsEnd arrays start (next (datum_of h) w) n r) → IsEnd arrays start (with_value v next) n r
  then_ends start m n next h r (got d w) e k = subst (λ (x : Datum). IsEnd arrays start (next x w) n r) (sym e.0) (k w e.1)
  then_ends start m n next h r (halts x w) e k = absurd e

  pub does_then : {b m n : Run} {first : Action} {h : Held} {r : Result Held Halt} (next : Datum → Action) → Does arrays b first m (Ok h) →
      Does arrays m (next (datum_of h)) n r → Does arrays b (and_then first next) n r
  does_then {b = b} {m = m} {n = n} {first = first} {h = h} {r = r} next d e = record {
    ends = λ start w s. then_ends start m n next h r (first w) (d.ends start w s) (e.ends start);
    stays = stays_trans d.stays e.stays;
    rise = rise_later b.out.faults m.out.faults n.out.faults r d.stays.faults e.rise;
  }

  pub does_fail : {b n : Run} {first : Action} {x : Halt} (next : Datum → Action) → ((d : Datum) → Adds (next d)) → Does arrays b first n (Err x) →
      Does arrays b (and_then first next) n (Err x)
  does_fail {n = n} {first = first} {x = x} next k d = record { ends = λ start w s. fails_end arrays start n next x (first w) k (d.ends start w s); stays = d.stays; rise = d.rise }

  -- a step that changes nothing
  settled_end : (start : List ℕ) (s : Run) (r : Result Held Stop) (w : World) → Stands arrays start s w → IsEnd arrays start (value_in r w) s (settled r)
  settled_end start s (Ok h) w k = (refl, k)
  settled_end start s (Err x) w k = (refl, k)

  pub does_settled : (s : Run) (action : Action) (r : Result Held Stop) → ((start : List ℕ) (w : World) → Stands arrays start s w → value_in r w ≡ action w) →
      Does arrays s action s (settled r)
  does_settled s action r k = record {
    ends = λ start w h. subst (λ (v : Value). IsEnd arrays start v s (settled r)) (k start w h) (settled_end start s r w h);
    stays = stays_itself s.out;
    rise = settled_rise s.out.faults s.out.faults r;
  }

  -- want of memory in the midst
  pub does_want : (s : Run) (action : Action) → Adds action → Does arrays s action s (Err (Failed Memory))
  does_want s action a = record {
    ends = λ start w h. of_front arrays start s Memory (action w) (front_further (stands_front h) (a.adds w));
    stays = stays_itself s.out;
    rise = tt;
  }

  -- ---- going on

  pub goes_ok : (now : Run) (x : Result Held Halt) (h : Held) (next : Datum → Action) (r : Result Held Stop) (end : Result Held Halt) → x ≡ Ok h → end ≡ settled r →
      ((w : World) → value_in r w ≡ next (datum_of h) w) → GoesOn arrays now x next end
  goes_ok now x h next r end e f k = subst (λ (y : Result Held Halt). GoesOn arrays now y next end) (sym e) (subst (λ (y : Result Held Halt). GoesOn arrays now (Ok h) next y) (sym f)
      (record { goes = λ before first d. does_then next d (does_settled now (next (datum_of h)) r (λ start w s. k w)) }))

  pub does_reading : (rows : List Row) (out : SinkState) (action : Action) (r : Result Held Stop) →
      ((events : List Event) → AreRowsOf rows arrays → value_in r (record { memory = memory_in rows; events = events }) ≡ action (record { memory = memory_in rows; events = events })) →
      Does arrays (run_of rows out) action (run_of rows out) (settled r)
  does_reading rows out action r k = does_settled (run_of rows out) action r
      (λ start w s. subst (λ (u : World). value_in r u ≡ action u) (sym (in_rows rows w s.memory)) (k w.events s.rows))

  -- the same of a step that reads the cells
  pub goes_reading : (rows : List Row) (out : SinkState) (x : Result Held Halt) (h : Held) (next : Datum → Action) (r : Result Held Stop) (end : Result Held Halt) → x ≡ Ok h → end ≡ settled r →
      ((events : List Event) → AreRowsOf rows arrays → value_in r (record { memory = memory_in rows; events = events }) ≡ next (datum_of h) (record { memory = memory_in rows; events = events })) →
      GoesOn arrays (run_of rows out) x next end
  goes_reading rows out x h next r end e f k = subst (λ (y : Result Held Halt). GoesOn arrays (run_of rows out) y next end) (sym e)
      (subst (λ (y : Result Held Halt). GoesOn arrays (run_of rows out) (Ok h) next y) (sym f)
      (record { goes = λ before first d. does_then next d (does_reading rows out (next (datum_of h)) r k) }))

  pub goes_err : (now : Run) (x : Result Held Halt) (halt : Halt) (next : Datum → Action) → x ≡ Err halt → ((d : Datum) → Adds (next d)) → GoesOn arrays now x next (Err halt)
  goes_err now x halt next e k = subst (λ (y : Result Held Halt). GoesOn arrays now y next (Err halt)) (sym e) (record { goes = λ before first d. does_fail next k d })

  pub does_read : (rows : List Row) (out : SinkState) (action : Action) (r : Result Held Stop) (end : Result Held Halt) → end ≡ settled r →
      ((events : List Event) → AreRowsOf rows arrays → value_in r (record { memory = memory_in rows; events = events }) ≡ action (record { memory = memory_in rows; events = events })) →
      Does arrays (run_of rows out) action (run_of rows out) end
  does_read rows out action r end e k = subst (λ (y : Result Held Halt). Does arrays (run_of rows out) action (run_of rows out) y) (sym e) (does_reading rows out action r k)
