-- What each store and each note in the log keep of a memory, every run keeps.
use Rattle.std.proofs.Common.{ℕ, zero, suc, ◌+◌, ◌-◌, ◌*◌, ◌/◌, ◌%◌, ◌==◌, nat_lt, Bool, true, false, cond, ℤ, List, [], ◌∷◌, ◌++◌, ◌≡◌, length, map, Option, Some, None, Result, Ok, Err, refl, sym, subst}
use Rattle.std.specs.Option.{option_and_then, option_map}
use Rattle.std.specs.Prelude.{min, slice_get}
use Rattle.vk_types.specs.declared.types.Ty.{Ty}
use Rattle.vk_types.specs.declared.types.Ty.TheVariants.{I64}
use Rattle.vk_types.specs.declared.types.Stop.{Stop}
use Rattle.vk_types.specs.declared.types.Stop.TheVariants.{Turns}
use Rattle.vk_types.specs.Numbers.{number_of, word_of, wrap_number}
use Rattle.vk_types.specs.Operators.{op2_number}
use Rattle.vk_kinds.specs.declared.heads.CType.{CType}
use Rattle.vk_code.specs.declared.instruction.Instr.{Instr}
use Rattle.vk_code.specs.declared.instruction.Operation.{Operation}
use Rattle.vk_code.specs.declared.instruction.Operation.TheVariants.{Const, Copy, Convert, Binary, Compare, Unary, Lane, Load, Store, PtrAdd, Addr, MaskOf, MaskAnd, MaskOr, MaskBut, Loop, Call, Print, SimdLoop}
use Rattle.vk_code.specs.Instruction.{block_of, operation_of}
use Rattle.vk_code.specs.Listing.{Listing}
use Rattle.vk_object.specs.Tables.{EntryLists, Tables}
use Rattle.vk_object.specs.Memory.{Calls, Cell, Event, Extent, Memory, Prints, cell_of, logged, moved, with_cell}
use Rattle.vk_object.specs.Lane.{View, acts, with_stop, gives_pointer, gives_result, is_live, loads, number_at, stores, ty_at, works}
use Rattle.vk_object.specs.Images.{code_of}
use Rattle.vk_object.specs.Machine.{Called, Given, Ran, Simd, Site, Target, World, again, all_calls, all_out_of_turns, any_live, arg_reg, body_args, call_all, call_one, calls_in_turn, calls_target, enters, enters_some, entry_at, extent_of, first_lane, first_live, guard_holds, iterations, lane_args, lowest_stop, performs, performs_some, run, runs, runs_simd, simd_in, simd_of, site_at, sweep, takes, target_of}

-- the relation is kept by each store in an array and each note in the log, so by every run
module _ (arrays : List Extent) (R : Memory → Memory → Type 0) (same : (m : Memory) → R m m) (then : (a b c : Memory) → R a b → R b c → R a c)
    (noted : (e : Event) (m : Memory) → R m (logged e m))
    (stored : (m : Memory) (p : ℕ) (z : ℤ) (c : Cell) → cell_of arrays p ≡ Some c → R m (with_cell m c.array c.index (word_of (wrap_number c.ty z)))) where
  -- ---- one lane

  result_keeps : (v : View) (d : ℕ) (r : Result ℤ Stop) → R v.mem (gives_result v d r).mem
  result_keeps v d (Ok z) = same v.mem
  result_keeps v d (Err x) = same v.mem

  pointer_keeps : (v : View) (d : ℕ) (o : Option ℕ) → R v.mem (gives_pointer v d o).mem
  pointer_keeps v d None = same v.mem
  pointer_keeps v d (Some p) = same v.mem

  load_keeps : (v : View) (d : ℕ) (t : Ty) (o : Option Cell) → R v.mem (loads v d t o).mem
  load_keeps v d t None = same v.mem
  load_keeps v d t (Some c) = same v.mem

  store_keeps : (v : View) (n : ℤ) (p : ℕ) (o : Option Cell) → cell_of arrays p ≡ o → R v.mem (stores v n o).mem
  store_keeps v n p None e = same v.mem
  store_keeps v n p (Some c) e = stored v.mem p n c e

  works_keep : (regs : List CType) (j : ℕ) (o : Operation) (v : View) → R v.mem (works arrays regs j o v).mem
  works_keep regs j (Const t d value) v = same v.mem
  works_keep regs j (Copy d a) v = same v.mem
  works_keep regs j (Convert d a) v = same v.mem
  works_keep regs j (Binary op t d a b) v = result_keeps v d (op2_number op t (number_of t (v.lane.reg a)) (number_at regs v.lane b))
  works_keep regs j (Compare op t d a b) v = result_keeps v d (op2_number op t (number_of t (v.lane.reg a)) (number_of t (v.lane.reg b)))
  works_keep regs j (Unary op t d a) v = same v.mem
  works_keep regs j (Lane d) v = same v.mem
  works_keep regs j (Load d a) v = load_keeps v d (ty_at regs d) (cell_of arrays (v.lane.reg a))
  works_keep regs j (Store a b) v = store_keeps v (number_at regs v.lane b) (v.lane.reg a) (cell_of arrays (v.lane.reg a)) refl
  works_keep regs j (PtrAdd d a b) v = pointer_keeps v d (moved (v.lane.reg a) (number_at regs v.lane b))
  works_keep regs j (Addr d object) v = same v.mem
  works_keep regs j (MaskOf d a) v = same v.mem
  works_keep regs j (MaskAnd d a b) v = same v.mem
  works_keep regs j (MaskOr d a b) v = same v.mem
  works_keep regs j (MaskBut d a b) v = same v.mem
  works_keep regs j (Loop count) v = same v.mem
  works_keep regs j (Call slot) v = same v.mem
  works_keep regs j (Print a) v = noted (Prints (number_of I64 (v.lane.reg a))) v.mem
  works_keep regs j (SimdLoop number) v = same v.mem

  view_keeps : (m : Memory) (a b : View) (t : Bool) → R m a.mem → R m b.mem → R m (cond t a b).mem
  view_keeps m a b true g h = g
  view_keeps m a b false g h = h

  pub acts_keep : (regs : List CType) (m j : ℕ) (o : Operation) (v : View) → R v.mem (acts arrays regs m j o v).mem
  acts_keep regs m j (MaskOf d a) v = same v.mem
  acts_keep regs m j (MaskAnd d a b) v = same v.mem
  acts_keep regs m j (MaskOr d a b) v = same v.mem
  acts_keep regs m j (MaskBut d a b) v = same v.mem
  acts_keep regs m j o v = view_keeps v.mem (works arrays regs j o v) v (is_live m v.lane) (works_keep regs j o v) (same v.mem)

  -- ---- all lanes

  world_keeps : (m : Memory) (a b : World) (t : Bool) → R m a.mem → R m b.mem → R m (cond t a b).mem
  world_keeps m a b true g h = g
  world_keeps m a b false g h = h

  sweep_keeps : (n : ℕ) (step : ℕ → View → View) → ((j : ℕ) (v : View) → R v.mem (step j v).mem) → (w : World) → R w.mem (sweep n step w).mem
  sweep_keeps zero step h w = same w.mem
  sweep_keeps (suc n) step h w = then w.mem (sweep n step w).mem (sweep (suc n) step w).mem (sweep_keeps n step h w) (h n (record { lane = (sweep n step w).lane n; mem = (sweep n step w).mem }))

  -- ---- calls

  -- each call keeps the relation
  abbrev pub KeepsMemory : Called → Type 0
  KeepsMemory called = (on : ℕ → Bool) (args : ℕ → ℕ → ℕ) (mem : Memory) → R mem (called on args mem).mem

  pub target_keeps : (s : Site) (m : ℕ) → ((n : ℕ) → KeepsMemory (s.calls n)) → (o : Option Target) (w : World) → R w.mem (calls_target s m o w).mem
  target_keeps s m h None w = same w.mem
  target_keeps s m h (Some t) w = world_keeps w.mem (sweep s.entry.lanes (call_one m t.slot (s.calls t.number)) w) (call_all s m t.slot t.entry (s.calls t.number) w) (t.entry.lanes == 1)
      (sweep_keeps s.entry.lanes (call_one m t.slot (s.calls t.number))
      (λ j v. view_keeps v.mem (record { lane = takes t.slot.result v.lane ((s.calls t.number (λ i. i == 0) (λ p i. v.lane.reg (arg_reg t.slot p)) v.mem).value 0) ((s.calls t.number (λ i. i == 0) (λ p i. v.lane.reg (arg_reg t.slot p)) v.mem).stop 0); mem = (s.calls t.number (λ i. i == 0) (λ p i. v.lane.reg (arg_reg t.slot p)) v.mem).mem }) v (is_live m v.lane)
      (h t.number (λ i. i == 0) (λ p i. v.lane.reg (arg_reg t.slot p)) v.mem) (same v.mem)) w)
      (all_keeps (any_live s.entry.lanes m w.lane))
    where
      g : Given
      g = s.calls t.number (λ j. is_live m (w.lane j)) (lane_args s t.slot t.entry w.lane (first_live s.entry.lanes m w.lane)) w.mem

      all_keeps : (b : Bool) → R w.mem (cond b (record { lane = λ j. cond (is_live m (w.lane j)) (takes t.slot.result (w.lane j) (g.value j) (g.stop j)) (w.lane j); mem = g.mem }) w).mem
      all_keeps true = h t.number (λ j. is_live m (w.lane j)) (lane_args s t.slot t.entry w.lane (first_live s.entry.lanes m w.lane)) w.mem
      all_keeps false = same w.mem

  ran_keeps : (m : Memory) (a b : Ran) (t : Bool) → R m a.mem → R m b.mem → R m (cond t a b).mem
  ran_keeps m a b true g h = g
  ran_keeps m a b false g h = h

  turn_keeps : (m : Memory) (g : Given) (next : Ran) (o : Option Stop) → R m g.mem → R g.mem next.mem → R m (elim o as (λ _. Ran) [ Some x ↦ record { stop = Some x; mem = g.mem } | None ↦ next ]).mem
  turn_keeps m g next None h k = then m g.mem next.mem h k
  turn_keeps m g next (Some x) h k = h

  pub turns_keep : (called : Called) (args : ℕ → ℕ → ℕ → ℕ) (lanes : ℕ) → KeepsMemory called → (count c : ℕ) (mem : Memory) → R mem (calls_in_turn called args lanes count c mem).mem
  turns_keep called args lanes h zero c mem = same mem
  turns_keep called args lanes h (suc count) c mem =
      let g : Given = called (λ i. nat_lt i lanes) (args c) mem in
      turn_keeps mem g (calls_in_turn called args lanes count (c + 1) g.mem) (lowest_stop lanes g.stop) (h (λ i. nat_lt i lanes) (args c) mem) (turns_keep called args lanes h count (c + 1) g.mem)

  then_keeps : (m : Memory) (r : Ran) (next : Memory → Ran) → R m r.mem → ((mem : Memory) → R mem (next mem).mem) → (o : Option Stop) → R m (elim o as (λ _. Ran) [ Some x ↦ r | None ↦ next r.mem ]).mem
  then_keeps m r next g h None = then m r.mem (next r.mem).mem g (h r.mem)
  then_keeps m r next g h (Some x) = g

  pub calls_keep : (chunk rest : Called) (args : ℕ → ℕ → ℕ → ℕ → ℕ → ℕ) (lanes : ℕ) (fast : Bool) (n : ℕ) (mem : Memory) → KeepsMemory chunk → KeepsMemory rest → R mem (all_calls chunk rest args lanes fast n mem).mem
  calls_keep chunk rest args lanes true n mem g h =
      let r : Ran = calls_in_turn chunk (args lanes 0) lanes (n / lanes) 0 mem in
      then_keeps mem r (λ m. calls_in_turn rest (args 1 (n / lanes * lanes)) 1 (n % lanes) 0 m) (turns_keep chunk (args lanes 0) lanes g (n / lanes) 0 mem) (λ m. turns_keep rest (args 1 (n / lanes * lanes)) 1 h (n % lanes) 0 m) r.stop
  calls_keep chunk rest args lanes false n mem g h = turns_keep rest (args 1 0) 1 h n 0 mem

  after_keeps : (n turns : ℕ) (v : View) (r : Ran) (o : Option Stop) → R v.mem r.mem → R v.mem (elim o as (λ _. View) [
    | Some x ↦ record { lane = with_stop v.lane x; mem = r.mem }
    | None ↦ record { lane = cond (nat_lt turns n) (with_stop v.lane Turns) v.lane; mem = r.mem }
  ]).mem
  after_keeps n turns v r None g = g
  after_keeps n turns v r (Some x) g = g

  pub simd_keeps : (s : Site) (m : ℕ) → ((n : ℕ) → KeepsMemory (s.calls n)) → (o : Option Simd) (w : World) → R w.mem (runs_simd s m o w).mem
  simd_keeps s m h None w = same w.mem
  simd_keeps s m h (Some l) w =
      let v : View = record { lane = w.lane 0; mem = w.mem } in
      let n : ℕ = iterations (number_at s.code.routine.regs v.lane l.site.low) (number_at s.code.routine.regs v.lane l.site.high) in
      let r : Ran = all_calls (s.calls l.chunk) (s.calls l.rest) (body_args s l.site v.lane) l.lanes (guard_holds v.lane l.site.guards) (min n s.turns) v.mem in
      view_keeps v.mem (simd_in s l v) v (is_live m v.lane)
      (after_keeps n s.turns v r r.stop (calls_keep (s.calls l.chunk) (s.calls l.rest) (body_args s l.site v.lane) l.lanes (guard_holds v.lane l.site.guards) (min n s.turns) v.mem (h l.chunk) (h l.rest)))
      (same v.mem)

  -- ---- code

  performs_keep : (s : Site) → s.arrays ≡ arrays → (m : ℕ) → ((n : ℕ) → KeepsMemory (s.calls n)) → (o : Operation) (w : World) → R w.mem (performs s m o w).mem
  performs_keep s at m h (Call k) w = target_keeps s m h (target_of s k) w
  performs_keep s at m h (SimdLoop k) w = simd_keeps s m h (simd_of s k) w
  performs_keep s at m h o w = sweep_keeps s.entry.lanes (λ j v. acts s.arrays s.code.routine.regs m j o v) (λ j v. subst (λ xs. R v.mem (acts xs s.code.routine.regs m j o v).mem) (sym at) (acts_keep s.code.routine.regs m j o v)) w

  pub some_keeps : (s : Site) → s.arrays ≡ arrays → (m : ℕ) → ((n : ℕ) → KeepsMemory (s.calls n)) → (o : Option Operation) (w : World) → R w.mem (performs_some s m o w).mem
  some_keeps s at m h None w = same w.mem
  some_keeps s at m h (Some o) w = performs_keep s at m h o w

  pub again_keeps : (lanes m : ℕ) (block : World → World) → ((w : World) → R w.mem (block w).mem) → (n : ℕ) (w : World) → R w.mem (again lanes m block n w).mem
  again_keeps lanes m block h zero w = world_keeps w.mem (all_out_of_turns m w) w (any_live lanes m w.lane) (same w.mem) (same w.mem)
  again_keeps lanes m block h (suc n) w = world_keeps w.mem (again lanes m block n (block w)) w (any_live lanes m w.lane) (then w.mem (block w).mem (again lanes m block n (block w)).mem (h w) (again_keeps lanes m block h n (block w))) (same w.mem)

  block_keeps : (s : Site) → s.arrays ≡ arrays → (i : Instr) (is : List Instr) (n : ℕ) → ((k : ℕ) → KeepsMemory (s.calls k)) → ((skip count : ℕ) (w : World) → R w.mem (run s is skip count w).mem) → (o : Option ℕ) (w : World) →
      R w.mem (elim o as (λ _. World) [
        | None ↦ run s is zero n (performs_some s i.m (operation_of i) w)
        | Some x ↦ run s is x (n - x) (again s.entry.lanes i.m (λ v. run s is zero x v) s.turns w)
      ]).mem
  block_keeps s at i is n h k None w = then w.mem (performs_some s i.m (operation_of i) w).mem (run s is zero n (performs_some s i.m (operation_of i) w)).mem (some_keeps s at i.m h (operation_of i) w) (k zero n (performs_some s i.m (operation_of i) w))
  block_keeps s at i is n h k (Some x) w =
      let v : World = again s.entry.lanes i.m (λ v. run s is zero x v) s.turns w in
      then w.mem v.mem (run s is x (n - x) v).mem (again_keeps s.entry.lanes i.m (λ v. run s is zero x v) (k zero x) s.turns w) (k x (n - x) v)

  pub run_keeps : (s : Site) → s.arrays ≡ arrays → ((k : ℕ) → KeepsMemory (s.calls k)) → (is : List Instr) (skip count : ℕ) (w : World) → R w.mem (run s is skip count w).mem
  run_keeps s at h [] skip count w = same w.mem
  run_keeps s at h (i ∷ is) (suc skip) count w = run_keeps s at h is skip count w
  run_keeps s at h (i ∷ is) zero zero w = same w.mem
  run_keeps s at h (i ∷ is) zero (suc n) w = block_keeps s at i is n h (λ skip count v. run_keeps s at h is skip count v) (block_of i) w

  -- ---- entries

  pub enters_keeps : (e : ℕ) (s : Site) → s.arrays ≡ arrays → ((k : ℕ) → KeepsMemory (s.calls k)) → KeepsMemory (enters e s)
  enters_keeps e s at h on args mem =
      then mem (logged (Calls e) mem) (enters e s on args mem).mem (noted (Calls e) mem)
      (run_keeps s at h s.code.routine.instrs zero (length s.code.routine.instrs) (record { lane = first_lane s.entry.lanes s.code.routine.params args on; mem = logged (Calls e) mem }))

  code_keeps : (image : Tables) → map extent_of image.arrays ≡ arrays → (turns : ℕ) (calls : ℕ → Called) → ((k : ℕ) → KeepsMemory (calls k)) → (e : ℕ) (x : EntryLists) (o : Option Listing) → KeepsMemory (enters_some e (option_map (site_at image turns calls x) o))
  code_keeps image at turns calls h e x None on args mem = same mem
  code_keeps image at turns calls h e x (Some c) on args mem = enters_keeps e (site_at image turns calls x c) at h on args mem

  site_keeps : (image : Tables) → map extent_of image.arrays ≡ arrays → (turns : ℕ) (calls : ℕ → Called) → ((k : ℕ) → KeepsMemory (calls k)) → (e : ℕ) (o : Option EntryLists) → KeepsMemory (enters_some e (option_and_then (λ (x : EntryLists). option_map (site_at image turns calls x) (code_of image x)) o))
  site_keeps image at turns calls h e None on args mem = same mem
  site_keeps image at turns calls h e (Some x) on args mem = code_keeps image at turns calls h e x (code_of image x) on args mem

  pub entry_keeps : (image : Tables) → map extent_of image.arrays ≡ arrays → (turns depth e : ℕ) → KeepsMemory (entry_at image turns depth e)
  entry_keeps image at turns zero e on args mem = same mem
  entry_keeps image at turns (suc depth) e on args mem = site_keeps image at turns (entry_at image turns depth) (λ k. entry_keeps image at turns depth k) e (slice_get image.entries e) on args mem
