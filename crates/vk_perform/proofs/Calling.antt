-- Calls for all lanes and for one, and calls in turn.
use Rattle.std.proofs.Common.{◌≡◌, ℕ, zero, suc, ◌+◌, ◌-◌, ◌<◌, ◌==◌, ◌||◌, nat_lt, refl, ap, arith, sym, ◌∙◌, subst, cond, true, false, Bool, Option, Some, None}
use Rattle.std.proofs.lemmas.Bool.{eq-eqb, false≢true, ne_eqb}
use Rattle.vk_types.specs.declared.types.Stop.{Stop}
use Rattle.vk_io.specs.declared.outside.Outside.{Outside}
use Rattle.vk_code.specs.Listing.{CallSite}
use Rattle.vk_object.specs.Tables.{EntryLists}
use Rattle.vk_object.specs.Memory.{Memory}
use Rattle.vk_object.specs.Lane.{LaneState, View, is_live}
use Rattle.vk_object.specs.Machine.{Called, Given, Ran, Site, Target, World, any_live, arg_reg, call_all, call_one, calls_in_turn, calls_target, enters, first_lane, first_live, in_lane, lane_args, lowest_stop, put, runs_entry, sweep, takes, target_of, word_in}
use Rattle.vk_frames.proofs.Writes.{put_self}
use Rattle.vk_access.specs.Outer.{Breaks, Goes, Leads, Outer, world}
use Rattle.vk_access.proofs.Leading.{breaks_after, breaks_as, leads_as, leads_map, leads_then}
use Rattle.vk_runs.specs.Logs.{Grows}
use Rattle.vk_steps.specs.declared.place.Place.{Place}
use Rattle.vk_perform.proofs.Growing.{GrowsLogs, turn_grows}

-- ---- what is told of a frame, by the lanes of its place

pub alive : (lanes n m : ℕ) (l : ℕ → LaneState) (r b : Bool) → n ≡ lanes → r ≡ any_live n m l → r ≡ b → any_live lanes m l ≡ b
alive lanes n m l r b e f h = ap (λ k. any_live k m l) (sym e) ∙ (sym f ∙ h)

pub lowest_at : (lanes n : ℕ) (stops : ℕ → Option Stop) (low : Option Stop) → n ≡ lanes → low ≡ lowest_stop n stops → low ≡ lowest_stop lanes stops
lowest_at lanes n stops low e h = h ∙ ap (λ k. lowest_stop k stops) e

-- ---- for all lanes

-- what all lanes take of the call's frame
abbrev pub taken_all : ℕ → CallSite → Option ℕ → (ℕ → LaneState) → World → World
taken_all m slot result l w = record { lane = λ j. cond (is_live m (l j)) (takes slot.result (l j) (word_in result (w.lane j)) (w.lane j).stop) (l j); mem = w.mem }

called_all : (s : Site) (m : ℕ) (slot : CallSite) (e : EntryLists) (n : ℕ) (t : Site) (l k : ℕ → LaneState) (mem : Memory) → any_live s.entry.lanes m l ≡ true →
    k ≡ first_lane t.entry.lanes t.code.routine.params (lane_args s slot e l (first_live s.entry.lanes m l)) (λ j. is_live m (l j)) → call_all s m slot e (enters n t) (world l mem) ≡ taken_all m slot t.code.routine.result l (runs_entry n t (world k mem))
called_all s m slot e n t l k mem live first =
    ap (λ c. cond c (taken_all m slot t.code.routine.result l (runs_entry n t (world (first_lane t.entry.lanes t.code.routine.params (lane_args s slot e l (first_live s.entry.lanes m l)) (λ j. is_live m (l j))) mem))) (world l mem)) live
    ∙ ap (λ f. taken_all m slot t.code.routine.result l (runs_entry n t (world f mem))) (sym first)

pub call_goes : (s : Site) (m : ℕ) (slot : CallSite) (e : EntryLists) (n : ℕ) (t : Site) (l k k1 l1 : ℕ → LaneState) (a b : Outer) →
    any_live s.entry.lanes m l ≡ true → k ≡ first_lane t.entry.lanes t.code.routine.params (lane_args s slot e l (first_live s.entry.lanes m l)) (λ j. is_live m (l j)) →
    Goes k k1 a b (runs_entry n t) → l1 ≡ (λ j. cond (is_live m (l j)) (takes slot.result (l j) (word_in t.code.routine.result (k1 j)) (k1 j).stop) (l j)) →
    Goes l l1 a b (call_all s m slot e (enters n t))
call_goes s m slot e n t l k k1 l1 a b live first p last =
    leads_as World a b (λ mem. taken_all m slot t.code.routine.result l (runs_entry n t (world k mem))) (λ mem. taken_all m slot t.code.routine.result l (world k1 mem)) (λ mem. call_all s m slot e (enters n t) (world l mem)) (λ mem. world l1 mem)
    (λ mem. called_all s m slot e n t l k mem live first)
    (λ mem. ap (λ f. world f mem) (sym last))
    (leads_map World World a b (λ mem. runs_entry n t (world k mem)) (λ mem. world k1 mem) (taken_all m slot t.code.routine.result l) p)

pub call_breaks : (s : Site) (m : ℕ) (slot : CallSite) (e : EntryLists) (n : ℕ) (t : Site) (l k : ℕ → LaneState) (a b : Outer) (fault : Outside) →
    any_live s.entry.lanes m l ≡ true → k ≡ first_lane t.entry.lanes t.code.routine.params (lane_args s slot e l (first_live s.entry.lanes m l)) (λ j. is_live m (l j)) →
    Breaks a b fault (λ mem. (runs_entry n t (world k mem)).mem) → Breaks a b fault (λ mem. (call_all s m slot e (enters n t) (world l mem)).mem)
call_breaks s m slot e n t l k a b fault live first p =
    breaks_as a b fault (λ mem. (runs_entry n t (world k mem)).mem) (λ mem. (call_all s m slot e (enters n t) (world l mem)).mem)
    (λ mem. ap (λ (w : World). w.mem) (called_all s m slot e n t l k mem live first)) p

pub call_none : (s : Site) (m : ℕ) (slot : CallSite) (e : EntryLists) (called : Called) (w : World) → any_live s.entry.lanes m w.lane ≡ false → call_all s m slot e called w ≡ w
call_none s m slot e called w h = ap (λ c. cond c (record { lane = λ j. cond (is_live m (w.lane j)) (takes slot.result (w.lane j) ((called (λ i. is_live m (w.lane i)) (lane_args s slot e w.lane (first_live s.entry.lanes m w.lane)) w.mem).value j) ((called (λ i. is_live m (w.lane i)) (lane_args s slot e w.lane (first_live s.entry.lanes m w.lane)) w.mem).stop j)) (w.lane j); mem = (called (λ i. is_live m (w.lane i)) (lane_args s slot e w.lane (first_live s.entry.lanes m w.lane)) w.mem).mem }) w) h

-- the first live lane is one of the lanes
pub first_below : (n m : ℕ) (l : ℕ → LaneState) → any_live n m l ≡ true → first_live n m l < n
first_below zero m l h = absurd (false≢true h)
first_below (suc n) m l h = by (any_live n m l) (is_live m (l n)) (λ e. first_below n m l e) h
  where
    by : (a b : Bool) → (a ≡ true → first_live n m l < n) → (a || b) ≡ true → cond a (first_live n m l) (cond b n (n + 1)) < suc n
    by true b f h = let k = f refl in omega (arith, k)
    by false true f h = omega arith
    by false false f h = absurd (false≢true h)

-- ---- for one lane

abbrev pub taken_one : CallSite → Option ℕ → (ℕ → LaneState) → ℕ → World → World
taken_one slot result l j w = record { lane = put l j (takes slot.result (l j) (word_in result (w.lane 0)) (w.lane 0).stop); mem = w.mem }

called_one : (m : ℕ) (slot : CallSite) (n : ℕ) (t : Site) (j : ℕ) (l k : ℕ → LaneState) (mem : Memory) → is_live m (l j) ≡ true → k ≡ first_lane t.entry.lanes t.code.routine.params (λ p i. (l j).reg (arg_reg slot p)) (λ i. i == 0) →
    in_lane (call_one m slot (enters n t)) j (world l mem) ≡ taken_one slot t.code.routine.result l j (runs_entry n t (world k mem))
called_one m slot n t j l k mem live first =
    let e : in_lane (call_one m slot (enters n t)) j (world l mem) ≡ taken_one slot t.code.routine.result l j (runs_entry n t (world (first_lane t.entry.lanes t.code.routine.params (λ p i. (l j).reg (arg_reg slot p)) (λ i. i == 0)) mem)) = ap by live in
    e ∙ ap (λ f. taken_one slot t.code.routine.result l j (runs_entry n t (world f mem))) (sym first)
  where
    by : Bool → World
    by c =
        let g : Given = enters n t (λ i. i == 0) (λ p i. (l j).reg (arg_reg slot p)) mem in
        let v : View = cond c (record { lane = takes slot.result (l j) (g.value 0) (g.stop 0); mem = g.mem }) (record { lane = l j; mem = mem }) in
        record { lane = put l j v.lane; mem = v.mem }

pub call_one_goes : (m : ℕ) (slot : CallSite) (n : ℕ) (t : Site) (j : ℕ) (l k k1 l1 : ℕ → LaneState) (a b : Outer) →
    is_live m (l j) ≡ true → k ≡ first_lane t.entry.lanes t.code.routine.params (λ p i. (l j).reg (arg_reg slot p)) (λ i. i == 0) →
    Goes k k1 a b (runs_entry n t) → l1 ≡ put l j (takes slot.result (l j) (word_in t.code.routine.result (k1 0)) (k1 0).stop) →
    Goes l l1 a b (in_lane (call_one m slot (enters n t)) j)
call_one_goes m slot n t j l k k1 l1 a b live first p last =
    leads_as World a b (λ mem. taken_one slot t.code.routine.result l j (runs_entry n t (world k mem))) (λ mem. taken_one slot t.code.routine.result l j (world k1 mem)) (λ mem. in_lane (call_one m slot (enters n t)) j (world l mem)) (λ mem. world l1 mem)
    (λ mem. called_one m slot n t j l k mem live first)
    (λ mem. ap (λ f. world f mem) (sym last))
    (leads_map World World a b (λ mem. runs_entry n t (world k mem)) (λ mem. world k1 mem) (taken_one slot t.code.routine.result l j) p)

pub call_one_breaks : (m : ℕ) (slot : CallSite) (n : ℕ) (t : Site) (j : ℕ) (l k : ℕ → LaneState) (a b : Outer) (fault : Outside) →
    is_live m (l j) ≡ true → k ≡ first_lane t.entry.lanes t.code.routine.params (λ p i. (l j).reg (arg_reg slot p)) (λ i. i == 0) →
    Breaks a b fault (λ mem. (runs_entry n t (world k mem)).mem) → Breaks a b fault (λ mem. (in_lane (call_one m slot (enters n t)) j (world l mem)).mem)
call_one_breaks m slot n t j l k a b fault live first p =
    breaks_as a b fault (λ mem. (runs_entry n t (world k mem)).mem) (λ mem. (in_lane (call_one m slot (enters n t)) j (world l mem)).mem)
    (λ mem. ap (λ (w : World). w.mem) (called_one m slot n t j l k mem live first)) p

pub call_one_none : (m : ℕ) (slot : CallSite) (called : Called) (j : ℕ) (w : World) → is_live m (w.lane j) ≡ false → in_lane (call_one m slot called) j w ≡ w
call_one_none m slot called j w h = ap by h ∙ ap (λ f. record { lane = f; mem = w.mem }) (put_self w.lane j)
  where
    by : Bool → World
    by c =
        let g : Given = called (λ i. i == 0) (λ p i. (w.lane j).reg (arg_reg slot p)) w.mem in
        let v : View = cond c (record { lane = takes slot.result (w.lane j) (g.value 0) (g.stop 0); mem = g.mem }) (record { lane = w.lane j; mem = w.mem }) in
        record { lane = put w.lane j v.lane; mem = v.mem }

-- ---- the target of a slot

pub target_each : (s : Site) (m k : ℕ) (w : World) (t : Target) (called : Called) → target_of s k ≡ Some t → s.calls t.number ≡ called → t.entry.lanes ≡ 1 → calls_target s m (target_of s k) w ≡ sweep s.entry.lanes (call_one m t.slot called) w
target_each s m k w t called f h d =
    ap (λ t. calls_target s m t w) f ∙ (ap (λ c. cond (t.entry.lanes == 1) (sweep s.entry.lanes (call_one m t.slot c) w) (call_all s m t.slot t.entry c w)) h
    ∙ ap (λ b. cond b (sweep s.entry.lanes (call_one m t.slot called) w) (call_all s m t.slot t.entry called w)) (eq-eqb t.entry.lanes 1 d))

pub target_all : (s : Site) (m k : ℕ) (w : World) (t : Target) (called : Called) → target_of s k ≡ Some t → s.calls t.number ≡ called → (t.entry.lanes ≡ 1 → ⊥) → calls_target s m (target_of s k) w ≡ call_all s m t.slot t.entry called w
target_all s m k w t called f h d =
    ap (λ t. calls_target s m t w) f ∙ (ap (λ c. cond (t.entry.lanes == 1) (sweep s.entry.lanes (call_one m t.slot c) w) (call_all s m t.slot t.entry c w)) h
    ∙ ap (λ b. cond b (sweep s.entry.lanes (call_one m t.slot called) w) (call_all s m t.slot t.entry called w)) (ne_eqb t.entry.lanes 1 d))

-- ---- calls in turn

-- one call more of a body, whose lowest stop is `low`
pub turn_goes : (args : ℕ → ℕ → ℕ → ℕ) (lanes c k n : ℕ) (t : Site) (f k1 : ℕ → LaneState) (a b d : Outer) (F : Memory → Ran) (low : Option Stop) →
    0 < k → lanes ≡ t.entry.lanes → low ≡ lowest_stop lanes (λ j. (k1 j).stop) → f ≡ first_lane t.entry.lanes t.code.routine.params (args c) (λ i. nat_lt i lanes) →
    Leads Ran a b F (λ mem. calls_in_turn (enters n t) args lanes k c mem) → Goes f k1 b d (runs_entry n t) →
    Leads Ran a d F (λ mem. elim low as (λ _. Ran) [ Some x ↦ record { stop = Some x; mem = mem } | None ↦ calls_in_turn (enters n t) args lanes (k - 1) (c + 1) mem ])
turn_goes args lanes c zero n t f k1 a b d F low p same e first before now = absurd (omega (arith, p))
turn_goes args lanes c (suc k) n t f k1 a b d F low p same e first before now =
    leads_then Ran a b d F (λ mem. calls_in_turn (enters n t) args lanes (suc k) c mem) (λ mem. after low mem) before
    (leads_as Ran b d (λ mem. ended (runs_entry n t (world f mem))) (λ mem. ended (world k1 mem)) (λ mem. calls_in_turn (enters n t) args lanes (suc k) c mem) (λ mem. after low mem)
    (λ mem. ap (λ g. ended (runs_entry n t (world g mem))) (sym first))
    (λ mem. ap (λ o. elim o as (λ _. Ran) [ Some x ↦ record { stop = Some x; mem = mem } | None ↦ calls_in_turn (enters n t) args lanes k (c + 1) mem ]) (sym e) ∙ sym (less low mem))
    (leads_map World Ran b d (λ mem. runs_entry n t (world f mem)) (λ mem. world k1 mem) ended now))
  where
    after : Option Stop → Memory → Ran
    after o mem = elim o as (λ _. Ran) [ Some x ↦ record { stop = Some x; mem = mem } | None ↦ calls_in_turn (enters n t) args lanes (suc k - 1) (c + 1) mem ]

    ended : World → Ran
    ended w = elim (lowest_stop lanes (λ j. (w.lane j).stop)) as (λ _. Ran) [ Some x ↦ record { stop = Some x; mem = w.mem } | None ↦ calls_in_turn (enters n t) args lanes k (c + 1) w.mem ]

    minus : suc k - 1 ≡ k
    minus = omega arith

    less : (o : Option Stop) (mem : Memory) → after o mem ≡ elim o as (λ _. Ran) [ Some x ↦ record { stop = Some x; mem = mem } | None ↦ calls_in_turn (enters n t) args lanes k (c + 1) mem ]
    less o mem = ap (λ j. elim o as (λ _. Ran) [ Some x ↦ record { stop = Some x; mem = mem } | None ↦ calls_in_turn (enters n t) args lanes j (c + 1) mem ]) minus

-- one that breaks
pub turn_breaks : (p : Place) (args : ℕ → ℕ → ℕ → ℕ) (lanes c k n : ℕ) (t : Site) (f : ℕ → LaneState) (a b d : Outer) (fault : Outside) (F : Memory → Ran) →
    GrowsLogs (enters n t) → 0 < k → f ≡ first_lane t.entry.lanes t.code.routine.params (args c) (λ i. nat_lt i lanes) →
    Leads Ran a b F (λ mem. calls_in_turn (enters n t) args lanes k c mem) → Breaks b d fault (λ mem. (runs_entry n t (world f mem)).mem) → Breaks a d fault (λ mem. (F mem).mem)
turn_breaks p args lanes c k n t f a b d fault F grows some first before now =
    breaks_after Ran (λ r. r.mem) a b d fault F (λ mem. calls_in_turn (enters n t) args lanes k c mem) (λ mem. (runs_entry n t (world f mem)).mem) before now
    (λ mem. subst (λ (g : ℕ → LaneState). Grows (runs_entry n t (world g mem)).mem (calls_in_turn (enters n t) args lanes k c mem).mem) (sym first) (turn_grows p (enters n t) args lanes grows k c mem some))

pub no_stop : (called : Called) (args : ℕ → ℕ → ℕ → ℕ) (lanes k j c : ℕ) (low : Option Stop) (mem : Memory) → low ≡ None → k ≡ j →
    elim low as (λ _. Ran) [ Some x ↦ record { stop = Some x; mem = mem } | None ↦ calls_in_turn called args lanes k c mem ] ≡ calls_in_turn called args lanes j c mem
no_stop called args lanes k j c low mem h e = ap (λ o. elim o as (λ _. Ran) [ Some x ↦ record { stop = Some x; mem = mem } | None ↦ calls_in_turn called args lanes k c mem ]) h ∙ ap (λ i. calls_in_turn called args lanes i c mem) e

pub a_stop : (called : Called) (args : ℕ → ℕ → ℕ → ℕ) (lanes k c : ℕ) (low : Option Stop) (x : Stop) (mem : Memory) → low ≡ Some x →
    elim low as (λ _. Ran) [ Some y ↦ record { stop = Some y; mem = mem } | None ↦ calls_in_turn called args lanes k c mem ] ≡ record { stop = Some x; mem = mem }
a_stop called args lanes k c low x mem h = ap (λ o. elim o as (λ _. Ran) [ Some y ↦ record { stop = Some y; mem = mem } | None ↦ calls_in_turn called args lanes k c mem ]) h
