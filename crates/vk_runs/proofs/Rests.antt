-- A lane that rests goes on resting, whatever runs.
use Rattle.std.proofs.Common.{◌≡◌, ℕ, zero, suc, ◌-◌, ◌==◌, nat_lt, Bool, true, false, not, ◌&&◌, ◌||◌, cond, List, [], ◌∷◌, length, Option, Some, None, is_none, refl, ap, sym, subst, ◌∙◌}
use Rattle.std.proofs.lemmas.Bool.{eqb-true, false≢true}
use Rattle.std.specs.Option.{option_and_then, option_map}
use Rattle.std.specs.Prelude.{slice_get}
use Rattle.vk_types.specs.declared.types.Stop.TheVariants.{Turns}
use Rattle.vk_kinds.specs.declared.heads.CType.{CType}
use Rattle.vk_code.specs.declared.instruction.Instr.{Instr}
use Rattle.vk_code.specs.declared.instruction.Operation.{Operation}
use Rattle.vk_code.specs.declared.instruction.Operation.TheVariants.{MaskOf, MaskAnd, MaskOr, MaskBut, Call, SimdLoop}
use Rattle.vk_code.specs.Instruction.{block_of, operation_of}
use Rattle.vk_code.specs.Listing.{Listing}
use Rattle.vk_object.specs.Images.{code_of}
use Rattle.vk_object.specs.Tables.{EntryLists, Tables}
use Rattle.vk_object.specs.Memory.{Calls, Extent, Memory, logged}
use Rattle.vk_object.specs.Lane.{LaneState, View, acts, is_live, with_mask, with_stop, works}
use Rattle.vk_object.specs.Machine.{Called, Given, Simd, Site, Target, World, again, all_out_of_turns, any_live, arg_reg, call_all, call_one, calls_target, enters, enters_some, entry_at, first_lane, first_live, lane_args, performs, performs_some, run, runs, runs_simd, simd_in, simd_of, site_at, sweep, takes, target_of, word_in}
use Rattle.vk_runs.specs.Rest.{IsAtRest, StaysAtRest}

same : (l : LaneState) → IsAtRest l → StaysAtRest l l
same l h = record { registers = refl; stop = refl; rests = h }

then : (a b c : LaneState) → StaysAtRest a b → StaysAtRest b c → StaysAtRest a c
then a b c g h = record { registers = h.registers ∙ g.registers; stop = h.stop ∙ g.stop; rests = h.rests }

-- ---- one lane

-- a choice that is not made
not_made : (a b : LaneState) (t : Bool) → t ≡ false → IsAtRest b → StaysAtRest b (cond t a b)
not_made a b true h r = absurd (false≢true (sym h))
not_made a b false h r = same b r

view_not_made : (a b : View) (t : Bool) → t ≡ false → IsAtRest b.lane → StaysAtRest b.lane (cond t a b).lane
view_not_made a b true h r = absurd (false≢true (sym h))
view_not_made a b false h r = same b.lane r

mask_rests : (l : LaneState) (d : ℕ) (b : Bool) → (b && is_none l.stop) ≡ false → IsAtRest l → StaysAtRest l (with_mask l d b)
mask_rests l d b h r = record { registers = refl; stop = refl; rests = λ m. either (m == d) m }
  where
    either : (t : Bool) (m : ℕ) → (cond t b (l.on m) && is_none l.stop) ≡ false
    either true m = h
    either false m = r m

and_rests : (x y s : Bool) → (x && s) ≡ false → ((x && y) && s) ≡ false
and_rests true true s h = h
and_rests true false s h = refl
and_rests false y s h = refl

or_rests : (x y s : Bool) → (x && s) ≡ false → (y && s) ≡ false → ((x || y) && s) ≡ false
or_rests true y s h k = h
or_rests false y s h k = k

live_rests : (t x s : Bool) → t ≡ false → ((t && x) && s) ≡ false
live_rests true x s h = absurd (false≢true (sym h))
live_rests false x s h = refl

acts_rests : (arrays : List Extent) (regs : List CType) (m : ℕ) (o : Operation) (j : ℕ) (v : View) → IsAtRest v.lane → StaysAtRest v.lane (acts arrays regs m j o v).lane
acts_rests arrays regs m (MaskOf d a) j v r = mask_rests v.lane d (is_live m v.lane && not (v.lane.reg a == 0)) (live_rests (is_live m v.lane) (not (v.lane.reg a == 0)) (is_none v.lane.stop) (r m)) r
acts_rests arrays regs m (MaskAnd d a b) j v r = mask_rests v.lane d (v.lane.on a && v.lane.on b) (and_rests (v.lane.on a) (v.lane.on b) (is_none v.lane.stop) (r a)) r
acts_rests arrays regs m (MaskOr d a b) j v r = mask_rests v.lane d (v.lane.on a || v.lane.on b) (or_rests (v.lane.on a) (v.lane.on b) (is_none v.lane.stop) (r a) (r b)) r
acts_rests arrays regs m (MaskBut d a b) j v r = mask_rests v.lane d (v.lane.on a && not (v.lane.on b)) (and_rests (v.lane.on a) (not (v.lane.on b)) (is_none v.lane.stop) (r a)) r
acts_rests arrays regs m o j v r = view_not_made (works arrays regs j o v) v (is_live m v.lane) (r m) r

-- ---- all lanes

put_rests : (old a b : LaneState) (t : Bool) → (t ≡ true → StaysAtRest old a) → StaysAtRest old b → StaysAtRest old (cond t a b)
put_rests old a b true h k = h refl
put_rests old a b false h k = k

sweep_rests : (n : ℕ) (step : ℕ → View → View) → ((i : ℕ) (v : View) → IsAtRest v.lane → StaysAtRest v.lane (step i v).lane) → (w : World) (j : ℕ) → IsAtRest (w.lane j) → StaysAtRest (w.lane j) ((sweep n step w).lane j)
sweep_rests zero step h w j r = same (w.lane j) r
sweep_rests (suc n) step h w j r =
    let u : World = sweep n step w in
    let v : View = record { lane = u.lane n; mem = u.mem } in
    let before : StaysAtRest (w.lane j) (u.lane j) = sweep_rests n step h w j r in
    put_rests (w.lane j) (step n v).lane (u.lane j) (j == n)
    (λ e. let here : StaysAtRest (w.lane j) (u.lane n) = subst (λ i. StaysAtRest (w.lane j) (u.lane i)) (eqb-true j n e) before in
    then (w.lane j) (u.lane n) (step n v).lane here (h n v here.rests))
    before

choice_rests : (old : LaneState) (a b : World) (t : Bool) (j : ℕ) → StaysAtRest old (a.lane j) → StaysAtRest old (b.lane j) → StaysAtRest old ((cond t a b).lane j)
choice_rests old a b true j h k = h
choice_rests old a b false j h k = k

target_rests : (s : Site) (m : ℕ) (o : Option Target) (w : World) (j : ℕ) → IsAtRest (w.lane j) → StaysAtRest (w.lane j) ((calls_target s m o w).lane j)
target_rests s m None w j r = same (w.lane j) r
target_rests s m (Some t) w j r =
    let g : Given = s.calls t.number (λ i. is_live m (w.lane i)) (lane_args s t.slot t.entry w.lane (first_live s.entry.lanes m w.lane)) w.mem in
    choice_rests (w.lane j) (sweep s.entry.lanes (call_one m t.slot (s.calls t.number)) w) (call_all s m t.slot t.entry (s.calls t.number) w) (t.entry.lanes == 1) j
    (sweep_rests s.entry.lanes (call_one m t.slot (s.calls t.number))
    (λ i v rest. view_not_made (record { lane = takes t.slot.result v.lane ((s.calls t.number (λ k. k == 0) (λ p k. v.lane.reg (arg_reg t.slot p)) v.mem).value 0) ((s.calls t.number (λ k. k == 0) (λ p k. v.lane.reg (arg_reg t.slot p)) v.mem).stop 0); mem = (s.calls t.number (λ k. k == 0) (λ p k. v.lane.reg (arg_reg t.slot p)) v.mem).mem }) v (is_live m v.lane) (rest m) rest)
    w j r)
    (choice_rests (w.lane j) (record { lane = λ i. cond (is_live m (w.lane i)) (takes t.slot.result (w.lane i) (g.value i) (g.stop i)) (w.lane i); mem = g.mem }) w (any_live s.entry.lanes m w.lane) j
    (not_made (takes t.slot.result (w.lane j) (g.value j) (g.stop j)) (w.lane j) (is_live m (w.lane j)) (r m) r) (same (w.lane j) r))

simd_rests : (s : Site) (m : ℕ) (o : Option Simd) (w : World) (j : ℕ) → IsAtRest (w.lane j) → StaysAtRest (w.lane j) ((runs_simd s m o w).lane j)
simd_rests s m None w j r = same (w.lane j) r
simd_rests s m (Some l) w j r = sweep_rests 1 (λ i v. cond (is_live m v.lane) (simd_in s l v) v) (λ i v rest. view_not_made (simd_in s l v) v (is_live m v.lane) (rest m) rest) w j r

-- ---- code

performs_rests : (s : Site) (m : ℕ) (o : Operation) (w : World) (j : ℕ) → IsAtRest (w.lane j) → StaysAtRest (w.lane j) ((performs s m o w).lane j)
performs_rests s m (Call k) w j r = target_rests s m (target_of s k) w j r
performs_rests s m (SimdLoop k) w j r = simd_rests s m (simd_of s k) w j r
performs_rests s m o w j r = sweep_rests s.entry.lanes (λ i v. acts s.arrays s.code.routine.regs m i o v) (λ i v rest. acts_rests s.arrays s.code.routine.regs m o i v rest) w j r

some_rests : (s : Site) (m : ℕ) (o : Option Operation) (w : World) (j : ℕ) → IsAtRest (w.lane j) → StaysAtRest (w.lane j) ((performs_some s m o w).lane j)
some_rests s m None w j r = same (w.lane j) r
some_rests s m (Some o) w j r = performs_rests s m o w j r

-- lane j goes on resting
abbrev Keeps : ℕ → (World → World) → Type 0
Keeps j f = (w : World) → IsAtRest (w.lane j) → StaysAtRest (w.lane j) ((f w).lane j)

again_rests : (lanes m : ℕ) (block : World → World) (j : ℕ) → Keeps j block → (n : ℕ) → Keeps j (again lanes m block n)
again_rests lanes m block j h zero w r = choice_rests (w.lane j) (all_out_of_turns m w) w (any_live lanes m w.lane) j (not_made (with_stop (w.lane j) Turns) (w.lane j) (is_live m (w.lane j)) (r m) r) (same (w.lane j) r)
again_rests lanes m block j h (suc n) w r =
    let first : StaysAtRest (w.lane j) ((block w).lane j) = h w r in
    choice_rests (w.lane j) (again lanes m block n (block w)) w (any_live lanes m w.lane) j
    (then (w.lane j) ((block w).lane j) ((again lanes m block n (block w)).lane j) first (again_rests lanes m block j h n (block w) first.rests)) (same (w.lane j) r)

block_rests : (s : Site) (i : Instr) (is : List Instr) (n j : ℕ) → ((skip count : ℕ) → Keeps j (run s is skip count)) → (o : Option ℕ) →
    Keeps j (λ w. elim o as (λ _. World) [
      | None ↦ run s is zero n (performs_some s i.m (operation_of i) w)
      | Some x ↦ run s is x (n - x) (again s.entry.lanes i.m (λ v. run s is zero x v) s.turns w)
    ])
block_rests s i is n j k None w r =
    let v : World = performs_some s i.m (operation_of i) w in
    let first : StaysAtRest (w.lane j) (v.lane j) = some_rests s i.m (operation_of i) w j r in
    then (w.lane j) (v.lane j) ((run s is zero n v).lane j) first (k zero n v first.rests)
block_rests s i is n j k (Some x) w r =
    let v : World = again s.entry.lanes i.m (λ u. run s is zero x u) s.turns w in
    let first : StaysAtRest (w.lane j) (v.lane j) = again_rests s.entry.lanes i.m (λ u. run s is zero x u) j (k zero x) s.turns w r in
    then (w.lane j) (v.lane j) ((run s is x (n - x) v).lane j) first (k x (n - x) v first.rests)

-- a lane that rests goes on resting while code runs
pub run_rests : (s : Site) (is : List Instr) (skip count : ℕ) (w : World) (j : ℕ) → IsAtRest (w.lane j) → StaysAtRest (w.lane j) ((run s is skip count w).lane j)
run_rests s [] skip count w j r = same (w.lane j) r
run_rests s (i ∷ is) (suc skip) count w j r = run_rests s is skip count w j r
run_rests s (i ∷ is) zero zero w j r = same (w.lane j) r
run_rests s (i ∷ is) zero (suc n) w j r = block_rests s i is n j (λ skip count v rest. run_rests s is skip count v j rest) (block_of i) w r

-- ---- entries

-- a lane that a call does not give is off in all masks at first
off_at_first : (lanes params : ℕ) (args : ℕ → ℕ → ℕ) (on : ℕ → Bool) (j : ℕ) → on j ≡ false → IsAtRest (first_lane lanes params args on j)
off_at_first lanes params args on j h m = off (nat_lt j lanes && (m == 0)) (on j) h
  where
    off : (a b : Bool) → b ≡ false → ((a && b) && true) ≡ false
    off a true e = absurd (false≢true (sym e))
    off true false e = refl
    off false false e = refl

entered_rests : (e : ℕ) (s : Site) (on : ℕ → Bool) (args : ℕ → ℕ → ℕ) (mem : Memory) (j : ℕ) → on j ≡ false →
    StaysAtRest (first_lane s.entry.lanes s.code.routine.params args on j) ((run s s.code.routine.instrs zero (length s.code.routine.instrs) (record { lane = first_lane s.entry.lanes s.code.routine.params args on; mem = logged (Calls e) mem })).lane j)
entered_rests e s on args mem j h =
    run_rests s s.code.routine.instrs zero (length s.code.routine.instrs) (record { lane = first_lane s.entry.lanes s.code.routine.params args on; mem = logged (Calls e) mem }) j
    (off_at_first s.entry.lanes s.code.routine.params args on j h)

word_same : (r : Option ℕ) (a b : LaneState) → b.reg ≡ a.reg → word_in r b ≡ word_in r a
word_same None a b h = refl
word_same (Some r) a b h = ap (λ f. f r) h

-- in a lane that is off, the result is what its register had at first
pub value_at_first : (e : ℕ) (s : Site) (on : ℕ → Bool) (args : ℕ → ℕ → ℕ) (mem : Memory) (j : ℕ) → on j ≡ false →
    (enters e s on args mem).value j ≡ word_in s.code.routine.result (first_lane s.entry.lanes s.code.routine.params args on j)
value_at_first e s on args mem j h = word_same s.code.routine.result _ _ (entered_rests e s on args mem j h).registers

-- a call does not stop lane j
abbrev NoStop : ℕ → (ℕ → Bool) → Called → Type 0
NoStop j on called = (args : ℕ → ℕ → ℕ) (mem : Memory) → (called on args mem).stop j ≡ None

code_stops : (image : Tables) (turns : ℕ) (calls : ℕ → Called) (e : ℕ) (x : EntryLists) (o : Option Listing) (on : ℕ → Bool) (j : ℕ) → on j ≡ false → NoStop j on (enters_some e (option_map (site_at image turns calls x) o))
code_stops image turns calls e x None on j h args mem = refl
code_stops image turns calls e x (Some c) on j h args mem = (entered_rests e (site_at image turns calls x c) on args mem j h).stop

site_stops : (image : Tables) (turns : ℕ) (calls : ℕ → Called) (e : ℕ) (o : Option EntryLists) (on : ℕ → Bool) (j : ℕ) → on j ≡ false → NoStop j on (enters_some e (option_and_then (λ (x : EntryLists). option_map (site_at image turns calls x) (code_of image x)) o))
site_stops image turns calls e None on j h args mem = refl
site_stops image turns calls e (Some x) on j h args mem = code_stops image turns calls e x (code_of image x) on j h args mem

-- a lane that is off does not stop
pub off_lanes_run_on : (image : Tables) (turns e : ℕ) (on : ℕ → Bool) (args : ℕ → ℕ → ℕ) (mem : Memory) (j : ℕ) → on j ≡ false → (runs image turns e on args mem).stop j ≡ None
off_lanes_run_on image turns e on args mem j h = site_stops image turns (entry_at image turns 63) e (slice_get image.entries e) on j h args mem
