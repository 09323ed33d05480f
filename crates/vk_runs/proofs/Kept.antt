-- A lane that is not live in an instruction's mask keeps its registers.
use Rattle.std.proofs.Common.{◌≡◌, ℕ, zero, suc, ◌≤◌, ◌==◌, Bool, true, false, cond, List, Option, Some, None, refl, ap, sym, ◌∙◌, arith}
use Rattle.std.proofs.lemmas.Bool.{eqb-true, false≢true}
use Rattle.vk_kinds.specs.declared.heads.CType.{CType}
use Rattle.vk_code.specs.declared.instruction.Operation.{Operation}
use Rattle.vk_code.specs.declared.instruction.Operation.TheVariants.{MaskOf, MaskAnd, MaskOr, MaskBut, Call, SimdLoop}
use Rattle.vk_object.specs.Memory.{Extent}
use Rattle.vk_object.specs.Lane.{LaneState, View, acts, is_live, works}
use Rattle.vk_object.specs.Machine.{Given, Simd, Site, Target, World, any_live, arg_reg, call_all, call_one, calls_target, first_live, lane_args, performs, performs_some, runs_simd, simd_in, simd_of, sweep, takes, target_of}

-- the step leaves the registers of a lane that is not live
abbrev Keeps : ℕ → (ℕ → View → View) → Type 0
Keeps m step = (j : ℕ) (v : View) → is_live m v.lane ≡ false → (step j v).lane.reg ≡ v.lane.reg

put_at : (a b : LaneState) (old : ℕ → ℕ) (t : Bool) → (t ≡ true → a.reg ≡ old) → b.reg ≡ old → (cond t a b).reg ≡ old
put_at a b old true h k = h refl
put_at a b old false h k = k

-- lanes from n on are not touched
past : (n : ℕ) (step : ℕ → View → View) (w : World) (j : ℕ) → n ≤ j → (sweep n step w).lane j ≡ w.lane j
past zero step w j h = refl
past (suc n) step w j h = beside (j == n) refl (past n step w j (omega (arith, h)))
  where
    beside : (t : Bool) → t ≡ (j == n) → (sweep n step w).lane j ≡ w.lane j → cond t (step n (record { lane = (sweep n step w).lane n; mem = (sweep n step w).mem })).lane ((sweep n step w).lane j) ≡ w.lane j
    beside true e same = absurd (omega (arith, eqb-true j n (sym e), h))
    beside false e same = same

sweep_keeps : (m n : ℕ) (step : ℕ → View → View) → Keeps m step → (w : World) (j : ℕ) → is_live m (w.lane j) ≡ false → ((sweep n step w).lane j).reg ≡ (w.lane j).reg
sweep_keeps m zero step h w j off = refl
sweep_keeps m (suc n) step h w j off =
    let v : View = record { lane = (sweep n step w).lane n; mem = (sweep n step w).mem } in
    put_at (step n v).lane ((sweep n step w).lane j) (w.lane j).reg (j == n)
    (λ e. let same : v.lane ≡ w.lane j = past n step w n (omega arith) ∙ ap w.lane (sym (eqb-true j n e)) in
    h n v (ap (is_live m) same ∙ off) ∙ ap (λ (l : LaneState). l.reg) same)
    (sweep_keeps m n step h w j off)

view_keeps : (a v : View) (t : Bool) → t ≡ false → (cond t a v).lane.reg ≡ v.lane.reg
view_keeps a v true h = absurd (false≢true (sym h))
view_keeps a v false h = refl

acts_keep : (arrays : List Extent) (regs : List CType) (m : ℕ) (o : Operation) (j : ℕ) (v : View) → is_live m v.lane ≡ false → (acts arrays regs m j o v).lane.reg ≡ v.lane.reg
acts_keep arrays regs m (MaskOf d a) j v off = refl
acts_keep arrays regs m (MaskAnd d a b) j v off = refl
acts_keep arrays regs m (MaskOr d a b) j v off = refl
acts_keep arrays regs m (MaskBut d a b) j v off = refl
acts_keep arrays regs m o j v off = view_keeps (works arrays regs j o v) v (is_live m v.lane) off

lane_keeps : (a l : LaneState) (t : Bool) → t ≡ false → (cond t a l).reg ≡ l.reg
lane_keeps a l true h = absurd (false≢true (sym h))
lane_keeps a l false h = refl

choice_keeps : (a b : World) (t : Bool) (j : ℕ) (old : ℕ → ℕ) → (a.lane j).reg ≡ old → (b.lane j).reg ≡ old → ((cond t a b).lane j).reg ≡ old
choice_keeps a b true j old h k = h
choice_keeps a b false j old h k = k

target_keeps : (s : Site) (m : ℕ) (o : Option Target) (w : World) (j : ℕ) → is_live m (w.lane j) ≡ false → ((calls_target s m o w).lane j).reg ≡ (w.lane j).reg
target_keeps s m None w j off = refl
target_keeps s m (Some t) w j off =
    let g : Given = s.calls t.number (λ i. is_live m (w.lane i)) (lane_args s t.slot t.entry w.lane (first_live s.entry.lanes m w.lane)) w.mem in
    choice_keeps (sweep s.entry.lanes (call_one m t.slot (s.calls t.number)) w) (call_all s m t.slot t.entry (s.calls t.number) w) (t.entry.lanes == 1) j (w.lane j).reg
    (sweep_keeps m s.entry.lanes (call_one m t.slot (s.calls t.number))
    (λ i v dead. view_keeps (record { lane = takes t.slot.result v.lane ((s.calls t.number (λ k. k == 0) (λ p k. v.lane.reg (arg_reg t.slot p)) v.mem).value 0) ((s.calls t.number (λ k. k == 0) (λ p k. v.lane.reg (arg_reg t.slot p)) v.mem).stop 0); mem = (s.calls t.number (λ k. k == 0) (λ p k. v.lane.reg (arg_reg t.slot p)) v.mem).mem }) v (is_live m v.lane) dead)
    w j off)
    (choice_keeps (record { lane = λ i. cond (is_live m (w.lane i)) (takes t.slot.result (w.lane i) (g.value i) (g.stop i)) (w.lane i); mem = g.mem }) w (any_live s.entry.lanes m w.lane) j (w.lane j).reg
    (lane_keeps (takes t.slot.result (w.lane j) (g.value j) (g.stop j)) (w.lane j) (is_live m (w.lane j)) off) refl)

simd_keeps : (s : Site) (m : ℕ) (o : Option Simd) (w : World) (j : ℕ) → is_live m (w.lane j) ≡ false → ((runs_simd s m o w).lane j).reg ≡ (w.lane j).reg
simd_keeps s m None w j off = refl
simd_keeps s m (Some l) w j off =
    let v : View = record { lane = w.lane 0; mem = w.mem } in
    put_at (cond (is_live m v.lane) (simd_in s l v) v).lane (w.lane j) (w.lane j).reg (j == 0)
    (λ e. let same : w.lane 0 ≡ w.lane j = ap w.lane (sym (eqb-true j 0 e)) in
    view_keeps (simd_in s l v) v (is_live m v.lane) (ap (is_live m) same ∙ off) ∙ ap (λ (a : LaneState). a.reg) same)
    refl

performs_keep : (s : Site) (m : ℕ) (o : Operation) (w : World) (j : ℕ) → is_live m (w.lane j) ≡ false → ((performs s m o w).lane j).reg ≡ (w.lane j).reg
performs_keep s m (Call k) w j off = target_keeps s m (target_of s k) w j off
performs_keep s m (SimdLoop k) w j off = simd_keeps s m (simd_of s k) w j off
performs_keep s m o w j off = sweep_keeps m s.entry.lanes (λ i v. acts s.arrays s.code.routine.regs m i o v) (λ i v dead. acts_keep s.arrays s.code.routine.regs m o i v dead) w j off

-- an instruction leaves the registers of a lane that is not live in its mask
pub registers_kept : (s : Site) (m : ℕ) (o : Option Operation) (w : World) (j : ℕ) → is_live m (w.lane j) ≡ false → ((performs_some s m o w).lane j).reg ≡ (w.lane j).reg
registers_kept s m None w j off = refl
registers_kept s m (Some o) w j off = performs_keep s m o w j off
