-- What a call from outside gives, by the run of its entry.
use Rattle.std.proofs.Common.{◌≡◌, ℕ, ◌+◌, ◌&&◌, Bool, cond, IsOk, List, [], ◌++◌, Option, is_none, Result, Ok, Err, ap, sym, subst, ◌∙◌}
use Rattle.std.proofs.lemmas.Bool.{false≢true}
use Rattle.vk_io.specs.declared.outside.Outside.{Outside}
use Rattle.vk_io.specs.Sink.{GrowsWithin}
use Rattle.vk_types.specs.declared.types.Word.{Word}
use Rattle.vk_lanes.specs.Kernels.{Writes}
use Rattle.vk_object.specs.Lane.{LaneState}
use Rattle.vk_object.specs.Machine.{Given, Site, World, enters, first_lane, runs_entry, word_in}
use Rattle.vk_object.specs.Memory.{Event, calls_of}
use Rattle.vk_access.specs.Outer.{Breaks, Goes, Outer, Runs, memory_of, text_of, told, world}
use Rattle.vk_direct.specs.Given.{Calls, Fails, IsIn, Leaves, ends_on, gives_on}

module _ (e : ℕ) (s : Site) (on : ℕ → Bool) (args : ℕ → ℕ → ℕ) (l : ℕ → LaneState) (first : l ≡ first_lane s.entry.lanes s.code.routine.params args on) where
  -- the lanes and the memory after the run
  ran : Outer → World
  ran a = runs_entry e s (world (first_lane s.entry.lanes s.code.routine.params args on) (memory_of a []))

  given : Outer → Given
  given a = enters e s on args (memory_of a [])

  ended : (k : ℕ → LaneState) (a b : Outer) (g : Goes l k a b (runs_entry e s)) → ran a ≡ world k (memory_of b g.events)
  unfolding ran
  ended k a b g = ap (λ (f : ℕ → LaneState). runs_entry e s (world f (memory_of a []))) (sym first) ∙ g.leads []

  pub leaves : (k : ℕ → LaneState) (a b : Outer) → Goes l k a b (runs_entry e s) → Leaves (enters e s on args (memory_of a [])) a b
  unfolding ran
  leaves k a b g =
      let log : g.events ≡ (ran a).mem.log = sym (ap (λ (w : World). w.mem.log) (ended k a b g)) in
      record {
        cells = sym (ap (λ (w : World). w.mem.cells) (ended k a b g));
        counts = λ n. g.counted n ∙ ap (λ (es : List Event). told (a.counts n + calls_of n es)) log;
        stays = g.stays;
        text = λ t. g.bytes t ∙ ap (λ (es : List Event). a.sink.bytes ++ text_of es) log;
      }

  pub is_in : (k : ℕ → LaneState) (a b : Outer) → Goes l k a b (runs_entry e s) → IsIn (enters e s on args (memory_of a [])) s.code.routine.result k
  unfolding ran
  is_in k a b g = record {
    values = λ j. ap (λ (w : World). word_in s.code.routine.result (w.lane j)) (ended k a b g);
    stops = λ j. ap (λ (w : World). (w.lane j).stop) (ended k a b g);
  }

  pub fails : (fault : Outside) (a b : Outer) → Breaks a b fault (λ mem. (runs_entry e s (world l mem)).mem) → Fails (enters e s on args (memory_of a [])) a b fault
  fails fault a b h = record {
    stays = h.stays;
    failed = h.failed;
    lean = h.lean;
    front = λ t.
        let cut = h.front t [] in
        let log : cut.events ≡ (enters e s on args (memory_of a [])).mem.log = sym cut.appended ∙ ap (λ (f : ℕ → LaneState). (runs_entry e s (world f (memory_of a []))).mem.log) first in
        subst (λ (es : List Event). GrowsWithin a.sink.bytes b.sink.bytes (text_of es)) log cut.grown;
  }

  pub calls : (r : Result (Unit {0}) Outside) (k : ℕ → LaneState) (a b : Outer) → Runs r l k a b (runs_entry e s) → Calls r (enters e s on args (memory_of a [])) a b
  calls (Ok done) k a b h = leaves k a b h
  calls (Err fault) k a b h = fails fault a b h

  pub calls_in : (r : Result (Unit {0}) Outside) (k : ℕ → LaneState) (a b : Outer) → Runs r l k a b (runs_entry e s) → IsOk r → IsIn (enters e s on args (memory_of a [])) s.code.routine.result k
  calls_in (Ok done) k a b h ok = is_in k a b h
  calls_in (Err fault) k a b h ok = absurd (false≢true ok)

-- results that are taken from the lanes are those that are given
pub results_given : (on : ℕ → Bool) (g : Given) (result : Option ℕ) (k : ℕ → LaneState) (old new : List Word) → IsIn g result k → Writes (ends_on on k) (λ j. word_in result (k j)) old new → Writes (gives_on on g) g.value old new
results_given on g result k old new h w j =
    w j ∙ (ap (λ s. cond (on j && is_none s) (word_in result (k j)) (Rattle.vk_lanes.specs.Words.word_in old j)) (sym (h.stops j))
    ∙ ap (λ v. cond (gives_on on g j) v (Rattle.vk_lanes.specs.Words.word_in old j)) (sym (h.values j)))
