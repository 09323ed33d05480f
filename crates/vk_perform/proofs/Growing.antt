-- What is run only adds to the log.
use Rattle.std.proofs.Common.{◌==◌, ℕ, zero, suc, ◌+◌, ◌<◌, nat_lt, arith, refl, subst, cond, true, false, Bool, List, Option, Some, None, inl, inr, map}
use Rattle.std.proofs.lemmas.Bool.{cases_eq}
use Rattle.vk_types.specs.declared.types.Stop.{Stop}
use Rattle.vk_code.specs.declared.instruction.Instr.{Instr}
use Rattle.vk_code.specs.Listing.{CallSite}
use Rattle.vk_object.specs.Memory.{Memory}
use Rattle.vk_object.specs.Lane.{View, is_live}
use Rattle.vk_object.specs.Machine.{Called, Given, Ran, World, again, arg_reg, call_one, calls_in_turn, entry_at, extent_of, in_lane, lowest_stop, run, sweep, takes, then_calls}
use Rattle.vk_runs.specs.Logs.{Grows}
use Rattle.vk_runs.proofs.Logs.{grows_noted, grows_same, grows_stored, grows_then}
use Rattle.vk_runs.proofs.Memories.{again_keeps, entry_keeps, run_keeps, turns_keep}
use Rattle.vk_steps.specs.declared.place.Place.{Place}
use Rattle.vk_steps.specs.Places.{site, tables}

-- a call only adds to the log
abbrev pub GrowsLogs : Called → Type 0
GrowsLogs called = (on : ℕ → Bool) (args : ℕ → ℕ → ℕ) (mem : Memory) → Grows mem (called on args mem).mem

pub calls_grow : (p : Place) (n : ℕ) → GrowsLogs (entry_at (tables p) p.turns p.depth n)
calls_grow p n on args mem = entry_keeps (map extent_of (tables p).arrays) Grows grows_same grows_then grows_noted (grows_stored (map extent_of (tables p).arrays)) (tables p) refl p.turns p.depth n on args mem

pub run_grows : (p : Place) (is : List Instr) (skip count : ℕ) (w : World) → Grows w.mem (run (site p) is skip count w).mem
run_grows p is skip count w = run_keeps (map extent_of (tables p).arrays) Grows grows_same grows_then grows_noted (grows_stored (map extent_of (tables p).arrays)) (site p) refl (calls_grow p) is skip count w

pub again_grows : (p : Place) (lanes m : ℕ) (block : World → World) → ((w : World) → Grows w.mem (block w).mem) → (n : ℕ) (w : World) → Grows w.mem (again lanes m block n w).mem
again_grows p lanes m block h n w = again_keeps (map extent_of (tables p).arrays) Grows grows_same grows_then grows_noted (grows_stored (map extent_of (tables p).arrays)) lanes m block h n w

pub turns_grow : (p : Place) (called : Called) (args : ℕ → ℕ → ℕ → ℕ) (lanes : ℕ) → GrowsLogs called → (count c : ℕ) (mem : Memory) → Grows mem (calls_in_turn called args lanes count c mem).mem
turns_grow p called args lanes h count c mem = turns_keep (map extent_of (tables p).arrays) Grows grows_same grows_then grows_noted (grows_stored (map extent_of (tables p).arrays)) called args lanes h count c mem

-- a call, and those behind it
pub turn_grows : (p : Place) (called : Called) (args : ℕ → ℕ → ℕ → ℕ) (lanes : ℕ) → GrowsLogs called → (count c : ℕ) (mem : Memory) → 0 < count → Grows (called (λ i. nat_lt i lanes) (args c) mem).mem (calls_in_turn called args lanes count c mem).mem
turn_grows p called args lanes h zero c mem b = absurd (omega (arith, b))
turn_grows p called args lanes h (suc count) c mem b = by (lowest_stop lanes (called (λ i. nat_lt i lanes) (args c) mem).stop)
  where
    g : Given
    g = called (λ i. nat_lt i lanes) (args c) mem

    by : (o : Option Stop) → Grows (called (λ i. nat_lt i lanes) (args c) mem).mem (elim o as (λ _. Ran) [ Some x ↦ record { stop = Some x; mem = (called (λ i. nat_lt i lanes) (args c) mem).mem } | None ↦ calls_in_turn called args lanes count (c + 1) (called (λ i. nat_lt i lanes) (args c) mem).mem ]).mem
    by (Some x) = grows_same (called (λ i. nat_lt i lanes) (args c) mem).mem
    by None = turns_grow p called args lanes h count (c + 1) (called (λ i. nat_lt i lanes) (args c) mem).mem

pub then_grows : (r : Ran) (next : Memory → Ran) → ((m : Memory) → Grows m (next m).mem) → Grows r.mem (then_calls r next).mem
then_grows r next h = by r.stop
  where
    by : (o : Option Stop) → Grows r.mem (elim o as (λ _. Ran) [ Some x ↦ r | None ↦ next r.mem ]).mem
    by (Some x) = grows_same r.mem
    by None = h r.mem

-- ---- sweeps

pub sweep_grows : (step : ℕ → View → View) → ((j : ℕ) (v : View) → Grows v.mem (step j v).mem) → (n lanes : ℕ) (w : World) → n < lanes → Grows (in_lane step n (sweep n step w)).mem (sweep lanes step w).mem
sweep_grows step h n zero w b = absurd (omega (arith, b))
sweep_grows step h n (suc lanes) w b = elim (cases_eq n lanes) as (λ _. Grows (in_lane step n (sweep n step w)).mem (in_lane step lanes (sweep lanes step w)).mem) [
  | inl s ↦ subst (λ k. Grows (in_lane step n (sweep n step w)).mem (in_lane step k (sweep k step w)).mem) s (grows_same (in_lane step n (sweep n step w)).mem)
  | inr d ↦ grows_then (in_lane step n (sweep n step w)).mem (sweep lanes step w).mem (in_lane step lanes (sweep lanes step w)).mem (sweep_grows step h n lanes w (omega (arith, b, d))) (h lanes (record { lane = (sweep lanes step w).lane lanes; mem = (sweep lanes step w).mem }))
]

pub call_one_grows : (m : ℕ) (slot : CallSite) (called : Called) → GrowsLogs called → (j : ℕ) (v : View) → Grows v.mem (call_one m slot called j v).mem
call_one_grows m slot called h j v = by (is_live m v.lane)
  where
    by : (b : Bool) → Grows v.mem (cond b (record { lane = takes slot.result v.lane ((called (λ i. i == 0) (λ p i. v.lane.reg (arg_reg slot p)) v.mem).value 0) ((called (λ i. i == 0) (λ p i. v.lane.reg (arg_reg slot p)) v.mem).stop 0); mem = (called (λ i. i == 0) (λ p i. v.lane.reg (arg_reg slot p)) v.mem).mem }) v).mem
    by true = h (λ i. i == 0) (λ p i. v.lane.reg (arg_reg slot p)) v.mem
    by false = grows_same v.mem
