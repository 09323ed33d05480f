-- Parts of a run, one after the other.
use Rattle.std.proofs.Common.{◌≡◌, ℕ, ◌+◌, List, [], ◌∷◌, ◌++◌, refl, ap, arith, sym, ◌∙◌, subst, cond, Result, Ok, Err}
use Rattle.std.specs.Result.{IsErrAnd}
use Rattle.std.specs.Prelude.{IsTrue, ◌==◌, codes}
use Rattle.std.specs.Fmt.{signed_decimal}
use Rattle.std.proofs.lemmas.List.{append_assoc, append-nil}
use Rattle.vk_io.specs.declared.outside.Outside.{Outside}
use Rattle.vk_io.specs.Sink.{SinkState, Stays}
use Rattle.vk_object.specs.Memory.{Memory, Event, Prints, Calls, calls_of, logged}
use Rattle.vk_object.specs.Lane.{LaneState}
use Rattle.vk_object.specs.Machine.{World}
use Rattle.vk_runs.specs.Logs.{Grows}
use Rattle.vk_access.specs.Outer.{Breaks, Goes, IsCut, Leads, Outer, Runs, memory_of, text_of, told, world}

pub calls-append : (e : ℕ) (xs ys : List Event) → calls_of e (xs ++ ys) ≡ calls_of e xs + calls_of e ys
calls-append e [] ys = omega arith
calls-append e (Prints n ∷ xs) ys = calls-append e xs ys
calls-append e (Calls k ∷ xs) ys = let h = calls-append e xs ys in omega (arith, h)

pub text-append : (xs ys : List Event) → text_of (xs ++ ys) ≡ text_of xs ++ text_of ys
text-append [] ys = refl
text-append (Prints n ∷ xs) ys = ap (λ t. (signed_decimal n ++ codes "\n") ++ t) (text-append xs ys) ∙ sym (append_assoc (signed_decimal n ++ codes "\n") (text_of xs) (text_of ys))
text-append (Calls k ∷ xs) ys = text-append xs ys

pub stays_same : (s : SinkState) → Stays s s
stays_same s = record { tells = refl; is_lean = refl; faults = omega arith }

pub stays_then : (a b c : SinkState) → Stays a b → Stays b c → Stays a c
stays_then a b c p q = record { tells = q.tells ∙ p.tells; is_lean = q.is_lean ∙ p.is_lean; faults = let x = p.faults in let y = q.faults in omega (arith, x, y) }

-- counts that are told twice
pub told_twice : (n : ℕ) → told n ≡ told (told n)
told_twice n = omega arith

-- the counts are some that were told
abbrev pub AreTold : Outer → Type 0
AreTold a = (e : ℕ) → a.counts e ≡ told (a.counts e)

-- nothing happens
pub leads_same : (X : Type 0) (a : Outer) (F G : Memory → X) → AreTold a → ((mem : Memory) → F mem ≡ G mem) → Leads X a a F G
leads_same X a F G h e = record {
  events = [];
  counted = λ k. let g = h k in omega (arith, g);
  stays = stays_same a.sink;
  bytes = λ t. sym (append-nil a.sink.bytes);
  leads = λ log. e (memory_of a log) ∙ ap (λ l. G (memory_of a l)) (sym (append-nil log));
}

pub leads_then : (X : Type 0) (a b c : Outer) (F G H : Memory → X) → Leads X a b F G → Leads X b c G H → Leads X a c F H
leads_then X a b c F G H p q = record {
  events = p.events ++ q.events;
  counted = λ k. let x = p.counted k in let y = q.counted k in let z = calls-append k p.events q.events in omega (arith, x, y, z);
  stays = stays_then a.sink b.sink c.sink p.stays q.stays;
  bytes = λ t. q.bytes (subst IsTrue (sym p.stays.tells) t) ∙ (ap (λ l. l ++ text_of q.events) (p.bytes t) ∙ (append_assoc a.sink.bytes (text_of p.events) (text_of q.events) ∙ ap (λ l. a.sink.bytes ++ l) (sym (text-append p.events q.events))));
  leads = λ log. p.leads log ∙ (q.leads (log ++ p.events) ∙ ap (λ l. H (memory_of c l)) (append_assoc log p.events q.events));
}

pub leads_map : (X Y : Type 0) (a b : Outer) (F G : Memory → X) (H : X → Y) → Leads X a b F G → Leads Y a b (λ m. H (F m)) (λ m. H (G m))
leads_map X Y a b F G H p = record { events = p.events; counted = p.counted; stays = p.stays; bytes = p.bytes; leads = λ log. ap H (p.leads log) }

pub leads_as : (X : Type 0) (a b : Outer) (F G F' G' : Memory → X) → ((m : Memory) → F' m ≡ F m) → ((m : Memory) → G m ≡ G' m) → Leads X a b F G → Leads X a b F' G'
leads_as X a b F G F' G' f g p = record { events = p.events; counted = p.counted; stays = p.stays; bytes = p.bytes; leads = λ log. f (memory_of a log) ∙ (p.leads log ∙ g (memory_of b (log ++ p.events))) }

-- one more step of what was still to be run
pub goes_on : (a b c : Outer) (l k : ℕ → LaneState) (F : Memory → World) (H H' P : World → World) → Leads World a b F (λ m. H (world l m)) → Goes l k b c P → ((m : Memory) → H (world l m) ≡ H' (P (world l m))) → Leads World a c F (λ m. H' (world k m))
goes_on a b c l k F H H' P p q e = leads_then World a b c F (λ m. H (world l m)) (λ m. H' (world k m)) p
    (leads_as World b c (λ m. H' (P (world l m))) (λ m. H' (world k m)) (λ m. H (world l m)) (λ m. H' (world k m)) e (λ m. refl)
    (leads_map World World b c (λ m. P (world l m)) (λ m. world k m) H' q))

-- an entry is counted
pub counted_call : (a b : Outer) (n : ℕ) (l : ℕ → LaneState) (F : World → World) → a.cells ≡ b.cells → b.sink ≡ a.sink → ((e : ℕ) → b.counts e ≡ told (a.counts e + cond (n == e) 1 0)) →
    Leads World a b (λ m. F (world l (logged (Calls n) m))) (λ m. F (world l m))
counted_call a b n l F cells sink counts = record {
  events = Calls n ∷ [];
  counted = λ e. let h = counts e in omega (arith, h);
  stays = subst (Stays a.sink) (sym sink) (stays_same a.sink);
  bytes = λ t. ap (λ (s : SinkState). s.bytes) sink ∙ sym (append-nil a.sink.bytes);
  leads = λ log. ap (λ (f : ℕ → ℕ → ℕ). F (world l (record { cells = f; log = log ++ Calls n ∷ [] }))) cells;
}

-- ---- where a sink fails

cut_after : (old mid new : List ℕ) (log before : List Event) (middle after : Memory) → mid ≡ old ++ text_of before → IsCut mid new (log ++ before) middle → Grows middle after → IsCut old new log after
cut_after old mid new log before middle after e p g = record {
  events = before ++ (p.events ++ g.events);
  appended = g.appended ∙ (ap (λ l. l ++ g.events) p.appended ∙ (append_assoc (log ++ before) p.events g.events ∙ append_assoc log before (p.events ++ g.events)));
  grown = record {
    front = text_of before ++ p.grown.front;
    rest = p.grown.rest ++ text_of g.events;
    parts = text-append before (p.events ++ g.events) ∙ (ap (λ l. text_of before ++ l) (text-append p.events g.events ∙ (ap (λ l. l ++ text_of g.events) p.grown.parts ∙ append_assoc p.grown.front p.grown.rest (text_of g.events)))
        ∙ sym (append_assoc (text_of before) p.grown.front (p.grown.rest ++ text_of g.events)));
    grown = p.grown.grown ∙ (ap (λ l. l ++ p.grown.front) e ∙ append_assoc old (text_of before) p.grown.front);
  };
}

-- what came before, and then a part that breaks: what was still to be run goes on from that part
pub breaks_after : (X : Type 0) (mem_of : X → Memory) (a b c : Outer) (fault : Outside) (F G : Memory → X) (Q : Memory → Memory) → Leads X a b F G → Breaks b c fault Q → ((m : Memory) → Grows (Q m) (mem_of (G m))) → Breaks a c fault (λ m. mem_of (F m))
breaks_after X mem_of a b c fault F G Q p q grows = record {
  stays = stays_then a.sink b.sink c.sink p.stays q.stays;
  failed = λ e. let x = q.failed e in let y = p.stays.faults in omega (arith, x, y);
  lean = λ t e. q.lean (subst IsTrue (sym p.stays.is_lean) t) e;
  front = λ t log. subst (λ (x : X). IsCut a.sink.bytes c.sink.bytes log (mem_of x)) (sym (p.leads log))
      (cut_after a.sink.bytes b.sink.bytes c.sink.bytes log p.events (Q (memory_of b (log ++ p.events))) (mem_of (G (memory_of b (log ++ p.events)))) (p.bytes t)
      (q.front (subst IsTrue (sym p.stays.tells) t) (log ++ p.events)) (grows (memory_of b (log ++ p.events))));
}

cut_more : (old new : List ℕ) (log : List Event) (middle after : Memory) → IsCut old new log middle → Grows middle after → IsCut old new log after
cut_more old new log middle after p g = record {
  events = p.events ++ g.events;
  appended = g.appended ∙ (ap (λ l. l ++ g.events) p.appended ∙ append_assoc log p.events g.events);
  grown = record {
    front = p.grown.front;
    rest = p.grown.rest ++ text_of g.events;
    parts = text-append p.events g.events ∙ (ap (λ l. l ++ text_of g.events) p.grown.parts ∙ append_assoc p.grown.front p.grown.rest (text_of g.events));
    grown = p.grown.grown;
  };
}

-- a part that breaks, and more that was to come
pub breaks_more : (a b : Outer) (fault : Outside) (F F' : Memory → Memory) → Breaks a b fault F → ((m : Memory) → Grows (F m) (F' m)) → Breaks a b fault F'
breaks_more a b fault F F' p grows = record {
  stays = p.stays;
  failed = p.failed;
  lean = p.lean;
  front = λ t log. cut_more a.sink.bytes b.sink.bytes log (F (memory_of a log)) (F' (memory_of a log)) (p.front t log) (grows (memory_of a log));
}

pub breaks_as : (a b : Outer) (fault : Outside) (F F' : Memory → Memory) → ((m : Memory) → F' m ≡ F m) → Breaks a b fault F → Breaks a b fault F'
breaks_as a b fault F F' e p = record { stays = p.stays; failed = p.failed; lean = p.lean; front = λ t log. subst (IsCut a.sink.bytes b.sink.bytes log) (sym (e (memory_of a log))) (p.front t log) }

-- the same step, told otherwise
pub runs_as : (r : Result (Unit {0}) Outside) (l k : ℕ → LaneState) (a b : Outer) (F F' : World → World) → ((m : Memory) → F' (world l m) ≡ F (world l m)) → Runs r l k a b F → Runs r l k a b F'
runs_as (Ok done) l k a b F F' e p = leads_as World a b (λ m. F (world l m)) (λ m. world k m) (λ m. F' (world l m)) (λ m. world k m) e (λ m. refl) p
runs_as (Err fault) l k a b F F' e p = breaks_as a b fault (λ m. (F (world l m)).mem) (λ m. (F' (world l m)).mem) (λ m. ap (λ (w : World). w.mem) (e m)) p

-- it broke
pub broken : (r : Result (Unit {0}) Outside) (fault : Outside) (l k : ℕ → LaneState) (a b : Outer) (F : World → World) → r ≡ Err fault → Breaks a b fault (λ m. (F (world l m)).mem) → Runs r l k a b F
broken r fault l k a b F e p = subst (λ (s : Result (Unit {0}) Outside). Runs s l k a b F) (sym e) p

pub is_err : {A : Type 0} (r : Result A Outside) (fault : Outside) → IsErrAnd r (λ e. e ≡ fault) → r ≡ Err fault
is_err (Ok x) fault e = absurd e
is_err (Err f) fault e = ap Err e
