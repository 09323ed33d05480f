-- Loads, stores and prints in one lane.
use Rattle.std.proofs.Common.{◌≡◌, ℕ, ◌<◌, ◌≤◌, Bool, true, false, cond, is_some, ℤ, List, [], ◌∷◌, ◌++◌, Option, Some, None, Result, Ok, Err, refl, ap, sym, subst, ◌∙◌, arith}
use Rattle.std.specs.Prelude.{IsTrue, IsErrOf, codes}
use Rattle.std.specs.Fmt.{signed_decimal}
use Rattle.std.proofs.lemmas.Bool.{false≢true}
use Rattle.std.proofs.lemmas.List.{append-nil}
use Rattle.vk_types.specs.declared.types.Ty.TheVariants.{I64}
use Rattle.vk_types.specs.Numbers.{number_of}
use Rattle.vk_io.specs.declared.outside.Outside.{Outside}
use Rattle.vk_io.specs.declared.outside.Outside.TheVariants.{Failed, Memory as NoMemory}
use Rattle.vk_io.specs.Counts.{Rose}
use Rattle.vk_io.specs.Sink.{GrowsWithin, SinkState, Stays}
use Rattle.vk_kinds.specs.declared.heads.CType.{CType}
use Rattle.vk_code.specs.declared.instruction.Instr.{Instr}
use Rattle.vk_code.specs.declared.instruction.Operation.{Operation}
use Rattle.vk_code.specs.declared.instruction.Operation.TheVariants.{Load, Store, Print}
use Rattle.vk_object.specs.Images.{names_of}
use Rattle.vk_object.specs.Lane.{LaneState, View, acts, is_live, loads, number_at, stores, ty_at}
use Rattle.vk_object.specs.Machine.{World, in_lane, put}
use Rattle.vk_object.specs.Memory.{Cell, Event, Extent, Memory, Prints, cell_of, logged}
use Rattle.vk_frames.specs.declared.frame.Frame.{Frame}
use Rattle.vk_frames.specs.Frames.{FitsAs, lanes_of}
use Rattle.vk_frames.proofs.Writes.{put_self}
use Rattle.vk_runs.specs.Words.{HasWords}
use Rattle.vk_runs.proofs.Typed.{acts_words}
use Rattle.vk_steps.specs.declared.place.Place.{Place}
use Rattle.vk_steps.specs.Locals.{live_as, with_pointer}
use Rattle.vk_steps.specs.Places.{FitsPlace, IsGood, entry, listing, regs, tables}
use Rattle.vk_steps.proofs.Fitting.{fits_put, operator_of}
use Rattle.vk_access.specs.Accesses.{element_at, stored_cells, storing}
use Rattle.vk_access.specs.Outer.{Goes, Outer, PutsLive, Runs, memory_of, text_of, told, world}
use Rattle.vk_access.proofs.Leading.{AreTold, stays_same}

abbrev pub seen : LaneState → Memory → View
seen l mem = record { lane = l; mem = mem }

-- ---- what the machine has of each

load_case : (regs : List CType) (v : View) (d : ℕ) (o : Option Cell) → loads v d (ty_at regs d) o ≡ seen (with_pointer v.lane d (element_at v.mem.cells (ty_at regs d) o)) v.mem
load_case regs v d None = refl
load_case regs v d (Some c) = refl

live_view : (b : Bool) (l k : LaneState) (mem : Memory) → cond b (seen k mem) (seen l mem) ≡ seen (cond b k l) mem
live_view true l k mem = refl
live_view false l k mem = refl

pub acts_load : (arrays : List Extent) (regs : List CType) (m j d a : ℕ) (l : LaneState) (mem : Memory) →
    acts arrays regs m j (Load d a) (seen l mem) ≡ seen (live_as m l (with_pointer l d (element_at mem.cells (ty_at regs d) (cell_of arrays (l.reg a))))) mem
acts_load arrays regs m j d a l mem =
    ap (λ w. cond (is_live m l) w (seen l mem)) (load_case regs (seen l mem) d (cell_of arrays (l.reg a))) ∙ live_view (is_live m l) l _ mem

store_case : (v : View) (n : ℤ) (o : Option Cell) → stores v n o ≡ seen (storing v.lane o) (record { cells = stored_cells v.mem.cells n o; log = v.mem.log })
store_case v n None = refl
store_case v n (Some c) = refl

live_store : (b : Bool) (l k : LaneState) (cells new : ℕ → ℕ → ℕ) (log : List Event) →
    cond b (seen k (record { cells = new; log = log })) (seen l (record { cells = cells; log = log })) ≡ seen (cond b k l) (record { cells = cond b new cells; log = log })
live_store true l k cells new log = refl
live_store false l k cells new log = refl

pub acts_store : (arrays : List Extent) (regs : List CType) (m j a b : ℕ) (l : LaneState) (mem : Memory) →
    acts arrays regs m j (Store a b) (seen l mem) ≡ seen (live_as m l (storing l (cell_of arrays (l.reg a)))) (record { cells = cond (is_live m l) (stored_cells mem.cells (number_at regs l b) (cell_of arrays (l.reg a))) mem.cells; log = mem.log })
acts_store arrays regs m j a b l mem =
    ap (λ w. cond (is_live m l) w (seen l mem)) (store_case (seen l mem) (number_at regs l b) (cell_of arrays (l.reg a))) ∙ live_store (is_live m l) l _ mem.cells _ mem.log

pub acts_print : (arrays : List Extent) (regs : List CType) (m j a : ℕ) (l : LaneState) (mem : Memory) →
    acts arrays regs m j (Print a) (seen l mem) ≡ seen l (record { cells = mem.cells; log = mem.log ++ cond (is_live m l) (Prints (number_of I64 (l.reg a)) ∷ []) [] })
acts_print arrays regs m j a l mem = by (is_live m l)
  where
    by : (b : Bool) → cond b (seen l (logged (Prints (number_of I64 (l.reg a))) mem)) (seen l mem) ≡ seen l (record { cells = mem.cells; log = mem.log ++ cond b (Prints (number_of I64 (l.reg a)) ∷ []) [] })
    by true = refl
    by false = ap (λ log. seen l (record { cells = mem.cells; log = log })) (sym (append-nil mem.log))

-- ---- one lane

pub fits_acted : (p : Place) (a b : Frame) (i : Instr) (o : Operation) (arrays : List Extent) (lane : ℕ) (k : LaneState) (mem new : Memory) → FitsPlace p a → FitsAs a b → IsGood p i o → lane < (entry p).lanes → (entry p).lanes ≤ 256 →
    acts arrays (regs p) i.m lane o (seen (lanes_of a lane) mem) ≡ seen k new → lanes_of b ≡ put (lanes_of a) lane k → FitsPlace p b
fits_acted p a b i o arrays lane k mem new h q good below few e f =
    fits_put p a b lane k h q
    (subst (λ (v : View). HasWords (regs p) v.lane) e (acts_words (names_of (tables p)) (listing p).routine arrays i.m lane o (seen (lanes_of a lane) mem) (omega (arith, below, few)) (operator_of i o good.is) good.typed (h.words lane))) f

-- a step that prints nothing and calls nothing
pub lane_goes : (step : ℕ → View → View) (lane : ℕ) (l l' : ℕ → LaneState) (k : LaneState) (a b : Outer) → AreTold a → ((e : ℕ) → b.counts e ≡ a.counts e) → b.sink ≡ a.sink → l' ≡ put l lane k →
    ((log : List Event) → step lane (seen (l lane) (memory_of a log)) ≡ seen k (memory_of b log)) → Goes l l' a b (in_lane step lane)
lane_goes step lane l l' k a b told same sink f h = record {
  events = [];
  counted = λ e. let x = same e in let y = told e in omega (arith, x, y);
  stays = subst (Stays a.sink) (sym sink) (stays_same a.sink);
  bytes = λ t. ap (λ (s : SinkState). s.bytes) sink ∙ sym (append-nil a.sink.bytes);
  leads = λ log. ap (λ (v : View). record { lane = put l lane v.lane; mem = v.mem }) (h log)
      ∙ (ap (λ (g : ℕ → LaneState). world g (memory_of b log)) (sym f) ∙ ap (λ x. world l' (memory_of b x)) (sym (append-nil log)));
}

-- a step that prints, where the lane is live
module _ (step : ℕ → View → View) (lane : ℕ) (l : ℕ → LaneState) (live : Bool) (n : ℤ) (a b : Outer) where
  abbrev events : Bool → List Event
  events live = cond live (Prints n ∷ []) []

  text : (live : Bool) → text_of (events live) ≡ cond live (signed_decimal n ++ codes "\n") []
  text true = append-nil (signed_decimal n ++ codes "\n")
  text false = refl

  no_calls : (live : Bool) (e : ℕ) → Rattle.vk_object.specs.Memory.calls_of e (events live) ≡ 0
  no_calls true e = refl
  no_calls false e = refl

  stepped : ((mem : Memory) → step lane (seen (l lane) mem) ≡ seen (l lane) (record { cells = mem.cells; log = mem.log ++ events live })) → (mem : Memory) →
      in_lane step lane (world l mem) ≡ world l (record { cells = mem.cells; log = mem.log ++ events live })
  stepped h mem = ap (λ (v : View). record { lane = put l lane v.lane; mem = v.mem }) (h mem) ∙ ap (λ (g : ℕ → LaneState). world g (record { cells = mem.cells; log = mem.log ++ events live })) (put_self l lane)

  pub lane_prints : (r : Result (Unit {0}) Outside) → AreTold a → a.cells ≡ b.cells → ((e : ℕ) → b.counts e ≡ a.counts e) → Stays a.sink b.sink →
      (IsTrue a.sink.tells → PutsLive live a.sink.bytes b.sink.bytes r n) → (IsErrOf r Failed → Rose a.sink.faults b.sink.faults) → (IsTrue a.sink.is_lean → IsErrOf r NoMemory → ⊥) →
      ((mem : Memory) → step lane (seen (l lane) mem) ≡ seen (l lane) (record { cells = mem.cells; log = mem.log ++ events live })) → Runs r l l a b (in_lane step lane)
  lane_prints (Ok done) told cells same stays puts failed lean h = record {
    events = events live;
    counted = λ e. let x = same e in let y = told e in let z = no_calls live e in omega (arith, x, y, z);
    stays = stays;
    bytes = λ t. puts t ∙ ap (λ x. a.sink.bytes ++ x) (sym (text live));
    leads = λ log. stepped h (memory_of a log) ∙ ap (λ (c : ℕ → ℕ → ℕ). world l (record { cells = c; log = log ++ events live })) cells;
  }
  lane_prints (Err fault) told cells same stays puts failed lean h = record {
    stays = stays;
    failed = λ e. failed (ap Err e);
    lean = λ t e. lean t (ap Err e);
    front = λ t log. record {
      events = events live;
      appended = ap (λ (w : World). w.mem.log) (stepped h (memory_of a log));
      grown = subst (GrowsWithin a.sink.bytes b.sink.bytes) (sym (text live)) (puts t);
    };
  }

-- a lane that stored
pub stored_lane : (f : ℕ → LaneState) (lane m : ℕ) (o : Option Cell) → is_some o ≡ true → f ≡ put f lane (live_as m (f lane) (storing (f lane) o))
stored_lane f lane m None h = absurd (false≢true h)
stored_lane f lane m (Some c) h = sym (ap (put f lane) (same (is_live m (f lane)) (f lane)) ∙ put_self f lane)
  where
    same : (b : Bool) (l : LaneState) → cond b l l ≡ l
    same true l = refl
    same false l = refl
